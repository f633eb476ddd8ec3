-- The script of a question over an unrolled frame is one of the frame's question.
use Rattle.std.proofs.Common.{◌≡◌, ℕ, zero, suc, ◌+◌, ◌<◌, ◌⊎◌, ◌^◌, refl, ap, sym, ◌∙◌, subst, arith, true, false, Bool, List, [], ◌∷◌, ◌++◌, Option, Some, None, length, map, Contains, inl, inr, get_or, append_assoc}
use Rattle.std.specs.Prelude.{◌≢◌, ◌↔◌, codes, slice_get, if◌then◌else◌, AllPairs}
use Rattle.std.proofs.lemmas.List.{get_or-map, length-map}
use Rattle.std.proofs.lemmas.List.Elements.{Contains-append_left, Contains-append_right, Contains-append_cases}
use Rattle.std.proofs.lemmas.Option.{slice_get_within, slice_get-get_or, get_or_from_slice_get}
use Rattle.bilv_spec.specs.PointLaws.{HasLawfulRows}
use Rattle.bilv_spec.specs.Points.{file_row, is_known_at, byte_of_cell}
use Rattle.machine_spec.specs.Bil.{Statements, Empty}
use Rattle.machine_spec.specs.Machine.{Row}
use Rattle.bilv_spec.specs.Scripts.{choice_name, draws}
use Rattle.frame_laws.specs.RunOfFrame.{IsAmong, IsTrueOfSweepOver}
use Rattle.frame_laws.proofs.FrameAnswers.{frame_answers_over}
use Rattle.frame_spec.specs.Frames.{Contract, Frame, contract_at, is_head}
use Rattle.frame_spec.specs.FramePoints.{Point, has_heads, is_cut}
use Rattle.frame_spec.specs.FrameQuestions.{Question, Reading, IsTrue}
use Rattle.frame_spec.specs.FrameScripts.{AreFrameNumbered, frame_drawn_names, frame_symbols_of, given_at, given_names, given_symbols, head_symbols, is_frame_point_below, of_given, point_draws}
use Rattle.frame_spec.specs.FrameUnrolling.{DoesAddress, DoesBy, DoesContract, DoesPlace, IsUnrolling}
use Rattle.frame_spec.specs.FrameWalk.{Executes, Arrives, Gift, StepsOver, UnrolledPoint, UnrolledProgram, no_point, point_at}
use Rattle.frame_terms.proofs.FrameAsked.{frame_asked_is_right}
use Rattle.frame_terms.specs.PassiveFrames.{IsGiftAt}
use Rattle.machine_spec.specs.StateText.{Layout, value_names}
use Rattle.walk_spec.specs.Unrolled.{byte_of_runs}
use Rattle.walk_spec.specs.Unrolling.{row_draws}
use Rattle.smtlib_print.specs.FrameTold.{IsFrameDrawn, IsFrameGiven, IsFrameSymbolOf, ScriptsAreOfFrames}
use Rattle.smtlib_print.specs.Numbered.{AreFrameInOrder}
use Rattle.smtlib_print.proofs.Below.{frame_point_itself}
use Rattle.smtlib_print.proofs.Programs.{draws_same, drawn_by, drawn_first, drawn_later}
use Rattle.smtlib_print.proofs.Symbols.{one_later}

-- the symbol is that of the choice of a point whose row draws it, by its number from a first one on
record IsChoiceOf (f : Frame) (n : ℕ) (points : List Point) (w : List ℕ) : Type 0 where
  at : ℕ
  point : Point
  is : slice_get points at ≡ Some point
  drawn : point_draws f point ≡ true
  name : w ≡ choice_name (n + at)

names_to : (f : Frame) (n : ℕ) (points : List Point) (w : List ℕ) → Contains (frame_drawn_names f n points) w → IsChoiceOf f n points w
names_to f n [] w h = absurd (omega (arith, h.1))
names_to f n (q ∷ qs) w h = elim (drawn_by (point_draws f q) (choice_name n) w (frame_drawn_names f (n + 1) qs) h) [
  | inl t ↦ record { at = 0; point = q; is = refl; drawn = t.0; name = t.1 ∙ ap choice_name (let e : n ≡ n + 0 = omega arith in e) }
  | inr t ↦ (let r = names_to f (n + 1) qs w t in
      record {
        at = suc r.at;
        point = r.point;
        is = r.is;
        drawn = r.drawn;
        name = r.name
            ∙ ap choice_name (let e : n + 1 + r.at ≡ n + suc r.at = omega arith in e);
      })
]

names_from : (f : Frame) (n : ℕ) (points : List Point) (at : ℕ) (point : Point) → slice_get points at ≡ Some point →
    point_draws f point ≡ true → Contains (frame_drawn_names f n points) (choice_name (n + at))
names_from f n [] at point e d = absurd (omega (arith, slice_get_within [] at point e))
names_from f n (q ∷ qs) zero point e d =
    let same : q ≡ point = cc in
    let z : n ≡ n + 0 = omega arith in
    subst (λ (m : ℕ). Contains (frame_drawn_names f n (q ∷ qs)) (choice_name m)) z
    (drawn_first (point_draws f q) (choice_name n) (frame_drawn_names f (n + 1) qs) (ap (point_draws f) same ∙ d))
names_from f n (q ∷ qs) (suc i) point e d =
    let z : n + 1 + i ≡ n + suc i = omega arith in
    drawn_later (point_draws f q) (choice_name n) (choice_name (n + suc i)) (frame_drawn_names f (n + 1) qs)
    (subst (λ (m : ℕ). Contains (frame_drawn_names f (n + 1) qs) (choice_name m)) z (names_from f (n + 1) qs i point e d))

-- the symbol is one of what the contract step of a point is given, by its number from a first one on
record IsGivenAt (f : Frame) (layout : Layout) (n : ℕ) (points : List Point) (w : List ℕ) : Type 0 where
  at : ℕ
  point : Point
  is : slice_get points at ≡ Some point
  steps : point.contract ≡ true
  listed : Contains (given_at layout (n + at) (contract_at f.stepped point.at)) w

given_if : (f : Frame) (layout : Layout) (n : ℕ) (q : Point) (w : List ℕ) (b : Bool) →
    Contains (if b then given_at layout n (contract_at f.stepped q.at) else []) w →
    (b ≡ true) × Contains (given_at layout n (contract_at f.stepped q.at)) w
given_if f layout n q w true c = (refl, c)
given_if f layout n q w false c = absurd (omega (arith, c.1))

gifts_to : (f : Frame) (layout : Layout) (n : ℕ) (points : List Point) (w : List ℕ) → Contains (given_symbols f layout n points) w →
    IsGivenAt f layout n points w
gifts_to f layout n [] w c = absurd (omega (arith, c.1))
gifts_to f layout n (q ∷ qs) w c =
    elim (Contains-append_cases (if q.contract then given_at layout n (contract_at f.stepped q.at) else []) (given_symbols f layout (n + 1) qs) w c) [
      | inl t ↦ (let h = given_if f layout n q w q.contract t in
          let z : n ≡ n + 0 = omega arith in
          record {
            at = 0;
            point = q;
            is = refl;
            steps = h.0;
            listed = subst (λ (m : ℕ). Contains (given_at layout m (contract_at f.stepped q.at)) w) z h.1;
          })
      | inr t ↦ (let r = gifts_to f layout (n + 1) qs w t in
          let z : n + 1 + r.at ≡ n + suc r.at = omega arith in
          record {
            at = suc r.at;
            point = r.point;
            is = r.is;
            steps = r.steps;
            listed = subst (λ (m : ℕ). Contains (given_at layout m (contract_at f.stepped r.point.at)) w) z r.listed;
          })
    ]

gifts_from : (f : Frame) (layout : Layout) (n : ℕ) (points : List Point) (at : ℕ) (point : Point) (w : List ℕ) → slice_get points at ≡ Some point →
    point.contract ≡ true → Contains (given_at layout (n + at) (contract_at f.stepped point.at)) w → Contains (given_symbols f layout n points) w
gifts_from f layout n [] at point w e steps c = absurd (omega (arith, slice_get_within [] at point e))
gifts_from f layout n (q ∷ qs) zero point w e steps c =
    let same : q ≡ point = cc in
    let z : n + 0 ≡ n = omega arith in
    let here : Contains (given_at layout n (contract_at f.stepped q.at)) w =
    subst (λ (v : Point). Contains (given_at layout n (contract_at f.stepped v.at)) w) (sym same)
    (subst (λ (m : ℕ). Contains (given_at layout m (contract_at f.stepped point.at)) w) z c) in
    let b : q.contract ≡ true = ap (λ (v : Point). v.contract) same ∙ steps in
    Contains-append_left (if q.contract then given_at layout n (contract_at f.stepped q.at) else []) (given_symbols f layout (n + 1) qs) w
    (subst (λ (t : Bool). Contains (if t then given_at layout n (contract_at f.stepped q.at) else []) w) (sym b) here)
gifts_from f layout n (q ∷ qs) (suc i) point w e steps c =
    let z : n + suc i ≡ n + 1 + i = omega arith in
    Contains-append_right (if q.contract then given_at layout n (contract_at f.stepped q.at) else []) (given_symbols f layout (n + 1) qs) w
    (gifts_from f layout (n + 1) qs i point w e steps (subst (λ (m : ℕ). Contains (given_at layout m (contract_at f.stepped point.at)) w) z c))

-- a list of statements is no contract step
executes : (list : Statements) (x : Gift) → Executes list ≡ StepsOver x → ⊥
executes list x e = cc e

-- what a contract step of a contract does
abbrev StepsBy : UnrolledPoint → Contract → (to : ℕ) → Type 0
StepsBy q x to = q.does ≡ StepsOver (record { to = to; writes = x.writes; gives = x.gives; registers = x.registers; flags = x.flags })

-- points in their order are each once
once : (points : List Point) → AllPairs (λ x y. is_frame_point_below x y ≡ true) points → (i j : ℕ) → i < j → j < length points →
    slice_get points i ≢ slice_get points j
once points order i j l m e =
    let d : Point = no_point.point in
    let f = slice_get-get_or points i d (omega (arith, l, m)) in
    let g = slice_get-get_or points j d m in
    let same : get_or points i d ≡ get_or points j d = (let q = sym f ∙ e ∙ g in cc) in
    let h : is_frame_point_below (get_or points j d) (get_or points j d) ≡ true =
    subst (λ (v : Point). is_frame_point_below v (get_or points j d) ≡ true) same (order i j d l m) in
    let t : false ≡ true = sym (frame_point_itself (get_or points j d)) ∙ h in cc

-- what is known of the file is a byte that is asked
known_by : (f : Frame) (a b : ℕ) (t : Bool) → is_known_at f.program a ≡ t → (if t then Some (byte_of_cell (f.program.loaded a)) else None) ≡ Some b →
    is_known_at f.program a ≡ true
known_by f a b true h e = h
known_by f a b false h e = absurd (cc)

module _ (f : Frame) (low : (a : ℕ) → is_head f a ≡ true → a < 2 ^ 32) (contracts : List Contract) (among : IsAmong f contracts) where
  module _ (k : ℕ) (u : UnrolledProgram) (un : IsUnrolling f contracts k u) where
    draws_if : (contract : Bool) (row : Option Row) → (if contract then false else draws row) ≡ (if contract then false else row_draws row)
    draws_if true row = refl
    draws_if false row = draws_same row

    -- the point at a place draws as the row at its address, where the row is executed
    place_draws : (i : ℕ) → i < length u.points → point_draws f (point_at u i).point ≡ (point_at u i).draws
    place_draws i l =
        draws_if (point_at u i).point.contract (file_row f.program (point_at u i).point.at) ∙ sym (un.places i l).counted.draws

    -- a contract point makes the step of the contract at its address
    contract_step : (i : ℕ) (q : UnrolledPoint) (o : Option Contract) (stack : List ℕ) → DoesContract f k u i q o stack →
        (x : Contract) × (to : ℕ) × (o ≡ Some x) × StepsBy q x to
    contract_step i q None stack d = absurd d
    contract_step i q (Some x) [] d = absurd d
    contract_step i q (Some x) (to ∷ below) d = (x, to, refl, d.1)

    step_of : (i : ℕ) (q : UnrolledPoint) → DoesPlace f contracts k u i q → q.point.contract ≡ true →
        (x : Contract) × (to : ℕ) × (contract_at f.stepped q.point.at ≡ Some x) × StepsBy q x to
    step_of i q d steps =
        contract_step i q (contract_at f.stepped q.point.at) q.point.stack
        (subst (λ (b : Bool). DoesBy b (is_cut f q.point) f contracts k u i q) steps d)

    -- and no other point makes one
    no_step_at : (i : ℕ) (q : UnrolledPoint) (x : Gift) (row : Option Row) → DoesAddress f contracts k u i q row → q.does ≡ StepsOver x → ⊥
    no_step_at i q x None d e = executes Empty x (sym d.0 ∙ e)
    no_step_at i q x (Some row) d e = executes d.3.lists.0 x (sym d.3.lists.1 ∙ e)

    steps_by : (i : ℕ) (q : UnrolledPoint) (x : Gift) (contract cut : Bool) → DoesBy contract cut f contracts k u i q → q.does ≡ StepsOver x → contract ≡ true
    steps_by i q x true cut d e = refl
    steps_by i q x false true d e = absurd (let t : Arrives ≡ StepsOver x = sym d.0 ∙ e in cc)
    steps_by i q x false false d e = absurd (no_step_at i q x (file_row f.program q.point.at) d e)

    is_step : (i : ℕ) (x : Gift) → IsGiftAt u i x → (point_at u i).point.contract ≡ true
    is_step i x gift =
        let q = point_at u i in
        steps_by i q x q.point.contract (is_cut f q.point) (un.places i gift.place).does gift.does

    module _ (points : List Point) (order : AreFrameInOrder (map (λ v. v.point) u.points) points) where
      numbered : AreFrameNumbered f k points
      numbered = (
        record {
          all = λ q is. (order.same q).1 (un.points.all q is);
          only = λ q c. un.points.only q ((order.same q).0 c);
          once = once points order.order;
        },
        order.order,
      )

      -- the place of a point among the numbered ones
      place_of : (at : ℕ) (point : Point) → slice_get points at ≡ Some point → (i : ℕ) × (i < length u.points) × ((point_at u i).point ≡ point)
      place_of at point e =
          let l = slice_get_within points at point e in
          let c : Contains points point = (at, l, get_or_from_slice_get points at point point e) in
          let m = (order.same point).0 c in
          let small : m.0 < length u.points = omega (arith, m.1, length-map u.points (λ (v : UnrolledPoint). v.point)) in
          (m.0, small, sym (get_or-map (λ v. v.point) u.points m.0 no_point point small) ∙ m.2)

      -- the symbols of choices and of what is given
      abbrev of_points : Layout → List (List ℕ)
      of_points layout = frame_drawn_names f 0 points ++ given_symbols f layout 0 points

      abbrev further : Layout → List (List ℕ)
      further layout = head_symbols layout (has_heads f) ++ of_points layout

      -- the symbols of the frame: those of values, the memory's, and further ones
      symbols_are : (layout : Layout) → frame_symbols_of f layout points ≡ value_names layout ++ (codes "mem" ∷ further layout)
      symbols_are layout = append_assoc (value_names layout) (codes "mem" ∷ head_symbols layout (has_heads f)) (of_points layout)

      of_point_in : (layout : Layout) (w : List ℕ) → Contains (of_points layout) w → Contains (value_names layout ++ (codes "mem" ∷ further layout)) w
      of_point_in layout w c =
          Contains-append_right (value_names layout) (codes "mem" ∷ further layout) w
          (one_later (codes "mem") w (further layout) (Contains-append_right (head_symbols layout (has_heads f)) (of_points layout) w c))

      abbrev gift_by : Contract → (to : ℕ) → Gift
      gift_by x to = record { to = to; writes = x.writes; gives = x.gives; registers = x.registers; flags = x.flags }

      one_gift : (x y : Gift) → StepsOver x ≡ StepsOver y → x ≡ y
      one_gift x y e = cc

      symbols_in : (layout : Layout) (w : List ℕ) → IsFrameSymbolOf u (has_heads f) layout points w →
          Contains (value_names layout ++ (codes "mem" ∷ further layout)) w
      symbols_in layout w (inl c) = Contains-append_left (value_names layout) (codes "mem" ∷ further layout) w c
      symbols_in layout w (inr (inl e)) = Contains-append_right (value_names layout) (codes "mem" ∷ further layout) w (0, omega arith, sym e)
      symbols_in layout w (inr (inr (inl h))) =
          Contains-append_right (value_names layout) (codes "mem" ∷ further layout) w
          (one_later (codes "mem") w (further layout) (Contains-append_left (head_symbols layout (has_heads f)) (of_points layout) w h))
      symbols_in layout w (inr (inr (inr (inl (i, n, d, is, e))))) =
          let drawn = place_draws i d.0 ∙ d.1 in
          let c = names_from f 0 points n (point_at u i).point is drawn in
          let z : 0 + n ≡ n = omega arith in
          let c' : Contains (frame_drawn_names f 0 points) w =
          subst (λ (v : List ℕ). Contains (frame_drawn_names f 0 points) v) (ap choice_name z ∙ sym e) c in
          of_point_in layout w (Contains-append_left (frame_drawn_names f 0 points) (given_symbols f layout 0 points) w c')
      symbols_in layout w (inr (inr (inr (inr (i, n, x, gift, is, c))))) =
          let q = point_at u i in
          let steps = is_step i x gift in
          let by = step_of i q (un.places i gift.place).does steps in
          let same : StepsOver x ≡ StepsOver (gift_by by.0 by.1) = sym gift.does ∙ by.3 in
          let z : n ≡ 0 + n = omega arith in
          let there : Contains (given_at layout (0 + n) (contract_at f.stepped q.point.at)) w =
          subst (λ (o : Option Contract). Contains (given_at layout (0 + n) o) w) (sym by.2)
          (subst (λ (m : ℕ). Contains (map (of_given m) (given_names layout by.0.registers by.0.flags by.0.writes)) w) z
          (subst (λ (y : Gift). Contains (map (of_given n) (given_names layout y.registers y.flags y.writes)) w) (one_gift x (gift_by by.0 by.1) same) c)) in
          of_point_in layout w (Contains-append_right (frame_drawn_names f 0 points) (given_symbols f layout 0 points) w
          (gifts_from f layout 0 points n q.point w is steps there))

      symbols_to : (layout : Layout) (w : List ℕ) → IsFrameSymbolOf u (has_heads f) layout points w → Contains (frame_symbols_of f layout points) w
      symbols_to layout w s = subst (λ (ws : List (List ℕ)). Contains ws w) (sym (symbols_are layout)) (symbols_in layout w s)

      drawn_from : (w : List ℕ) → Contains (frame_drawn_names f 0 points) w → IsFrameDrawn u points w
      drawn_from w c =
          let r = names_to f 0 points w c in
          let q = place_of r.at r.point r.is in
          let z : 0 + r.at ≡ r.at = omega arith in
          let d = sym (place_draws q.0 q.1) ∙ ap (point_draws f) q.2 ∙ r.drawn in
          (q.0, r.at, (q.1, d), r.is ∙ ap Some (sym q.2), r.name ∙ ap choice_name z)

      given_from : (layout : Layout) (w : List ℕ) → Contains (given_symbols f layout 0 points) w → IsFrameGiven u layout points w
      given_from layout w c =
          let r = gifts_to f layout 0 points w c in
          let q = place_of r.at r.point r.is in
          let z : 0 + r.at ≡ r.at = omega arith in
          let steps = ap (λ (v : Point). v.contract) q.2 ∙ r.steps in
          let by = step_of q.0 (point_at u q.0) (un.places q.0 q.1).does steps in
          let at : contract_at f.stepped r.point.at ≡ Some by.0 = sym (ap (λ (v : Point). contract_at f.stepped v.at) q.2) ∙ by.2 in (
            q.0,
            r.at,
            gift_by by.0 by.1,
            record { place = q.1; does = by.3 },
            r.is ∙ ap Some (sym q.2),
            subst (λ (m : ℕ). Contains (given_at layout m (Some by.0)) w) z
                (subst (λ (o : Option Contract). Contains (given_at layout (0 + r.at) o) w) at r.listed),
          )

      point_from : (layout : Layout) (w : List ℕ) → Contains (of_points layout) w → IsFrameDrawn u points w ⊎ IsFrameGiven u layout points w
      point_from layout w c = elim (Contains-append_cases (frame_drawn_names f 0 points) (given_symbols f layout 0 points) w c) [
        | inl t ↦ inl (drawn_from w t)
        | inr t ↦ inr (given_from layout w t)
      ]

      head_from : (layout : Layout) (w : List ℕ) → Contains (further layout) w →
          Contains (head_symbols layout (has_heads f)) w ⊎ (IsFrameDrawn u points w ⊎ IsFrameGiven u layout points w)
      head_from layout w c = elim (Contains-append_cases (head_symbols layout (has_heads f)) (of_points layout) w c) [
        | inl t ↦ inl t
        | inr t ↦ inr (point_from layout w t)
      ]

      further_from : (layout : Layout) (w : List ℕ) → Contains (codes "mem" ∷ further layout) w →
          (w ≡ codes "mem") ⊎ (Contains (head_symbols layout (has_heads f)) w ⊎ (IsFrameDrawn u points w ⊎ IsFrameGiven u layout points w))
      further_from layout w (zero, l, e) = inl (sym e)
      further_from layout w (suc i, l, e) = inr (head_from layout w (i, omega (arith, l), e))

      symbols_from : (layout : Layout) (w : List ℕ) → Contains (frame_symbols_of f layout points) w → IsFrameSymbolOf u (has_heads f) layout points w
      symbols_from layout w c =
          elim (Contains-append_cases (value_names layout) (codes "mem" ∷ further layout) w
          (subst (λ (ws : List (List ℕ)). Contains ws w) (symbols_are layout) c)) [
            | inl t ↦ inl t
            | inr t ↦ inr (further_from layout w t)
          ]

    module _ (lawful : HasLawfulRows f.program) (r : Reading) (question : Question) where
      over : IsTrueOfSweepOver u (has_heads f) (is_known_at f.program) r question ↔ IsTrue f k r question
      over =
          let asked = frame_asked_is_right f contracts k u un [] (λ b c. absurd (omega (arith, c.1))) in
          frame_answers_over f lawful low contracts among k u un (is_known_at f.program) (λ a h. h) (λ a i is l. asked.0 _ (asked.1 a i is l)) r question

      question_to : IsTrueOfSweepOver u (has_heads f) (λ a. true) r question → IsTrue f k r question
      question_to t = over.0 (record {
        reading = t.reading;
        entry = record {
          state = t.entry.state;
          pc = t.entry.pc;
          link = t.entry.link;
          requires = t.entry.requires;
          bytes = λ a b l e asked. t.entry.bytes a b l e refl;
        };
        head = λ has asks a b l e kept asked. t.head has asks a b l e kept refl;
        ends = t.ends;
      })

      is_known : (a b : ℕ) → a < 2 ^ 32 → byte_of_runs u.known a ≡ Some b → is_known_at f.program a ≡ true
      is_known a b l e = known_by f a b (is_known_at f.program a) refl (sym (un.known a l) ∙ e)

      question_from : IsTrue f k r question → IsTrueOfSweepOver u (has_heads f) (λ a. true) r question
      question_from t =
          let here = over.1 t in
          record {
            reading = here.reading;
            entry = record {
              state = here.entry.state;
              pc = here.entry.pc;
              link = here.entry.link;
              requires = here.entry.requires;
              bytes = λ a b l e asked. here.entry.bytes a b l e (is_known a b l e);
            };
            head = λ has asks a b l e kept asked. here.head has asks a b l e kept (is_known a b l e);
            ends = here.ends;
          }

pub script_of_frame : ScriptsAreOfFrames
script_of_frame f lawful low contracts among k u un layout question text told =
    let order = told.are_in_order in
    record {
      points = told.points;
      are_numbered = numbered f low contracts among k u un told.points order;
      middle = told.middle;
      text_is = told.text_is;
      whole_lines = told.whole_lines;
      plain = told.plain;
      commands = told.commands;
      commands_are = told.commands_are;
      declares = λ w. (
        (λ c. symbols_to f low contracts among k u un told.points order layout w ((told.declares w).0 c)),
        (λ c. (told.declares w).1 (symbols_from f low contracts among k u un told.points order layout w c)),
      );
      defines = told.defines;
      well_formed = told.well_formed;
      means = λ r is at. (
        (λ t. question_to f low contracts among k u un lawful r question ((told.means r is (at ∙ sym un.entry)).0 t)),
        (λ t. (told.means r is (at ∙ sym un.entry)).1 (question_from f low contracts among k u un lawful r question t)),
      );
    }

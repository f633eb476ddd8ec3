-- The script of a question over an unrolled program is one of the program's question.
use Rattle.std.proofs.Common.{◌≡◌, ℕ, zero, suc, ◌+◌, ◌<◌, ◌⊎◌, refl, ap, sym, ◌∙◌, subst, arith, true, false, Bool, List, [], ◌∷◌, Option, Some, None, length, Contains, inl, inr, get_or}
use Rattle.std.specs.Prelude.{◌≢◌, ◌==◌, ◌&&◌, ◌||◌, ◌↔◌, nat_lt, codes, slice_get, if◌then◌else◌, AllPairs}
use Rattle.std.specs.Str.{bytes_eq}
use Rattle.std.proofs.lemmas.Bool.Decides.{nat_tests}
use Rattle.std.proofs.lemmas.List.{get_or-map, length-map}
use Rattle.std.proofs.lemmas.List.Elements.{Contains-append_left, Contains-append_right, Contains-append_cases}
use Rattle.std.proofs.lemmas.Option.{slice_get_within, slice_get-get_or, get_or_from_slice_get}
use Rattle.machine_spec.specs.Machine.{Row}
use Rattle.bilv_spec.specs.PointLaws.{HasLawfulRows}
use Rattle.bilv_spec.specs.Points.{Point, file_row, is_known_at, byte_of_cell}
use Rattle.bilv_spec.specs.Questions.{Reading, IsTrue, IsTrueOver}
use Rattle.call_spec.specs.Calls.{Question}
use Rattle.bilv_spec.specs.Run.{Program}
use Rattle.bilv_spec.specs.Scripts.{AreNumbered, IsScript, choice_name, draws, drawn_names, is_below_from_end, is_point_below, symbols_of}
use Rattle.machine_spec.specs.StateText.{Layout, value_names}
use Rattle.bilv_spec.proofs.AskedBytes.{true_over}
use Rattle.walk_spec.specs.Unrolled.{UnrolledPoint, UnrolledProgram, no_point, point_at}
use Rattle.walk_spec.specs.Unrolling.{IsUnrolling, row_draws}
use Rattle.term_spec.specs.WalkQuestions.{IsTrueOfWalk, IsTrueOfWalkOver}
use Rattle.term_spec.proofs.Asked.{asked_is_right}
use Rattle.term_spec.proofs.EntrySame.{entry_is_same}
use Rattle.walk_laws.proofs.WalkQuestions.{walk_answers_over}
use Rattle.smtlib_print.specs.Told.{AreInOrder, IsDrawn, IsSymbolOf, TellsScript}

-- a choice is the first name of a list where it is drawn, or stands behind it
pub drawn_by : (b : Bool) (c w : List ℕ) (rest : List (List ℕ)) → Contains (if b then c ∷ rest else rest) w → ((b ≡ true) × (w ≡ c)) ⊎ Contains rest w
drawn_by true c w rest (zero, l, e) = inl (refl, sym e)
drawn_by true c w rest (suc i, l, e) = inr (i, omega (arith, l), e)
drawn_by false c w rest h = inr h

pub drawn_first : (b : Bool) (c : List ℕ) (rest : List (List ℕ)) → b ≡ true → Contains (if b then c ∷ rest else rest) c
drawn_first true c rest h = (0, omega arith, refl)
drawn_first false c rest h = absurd (cc)

pub drawn_later : (b : Bool) (c w : List ℕ) (rest : List (List ℕ)) → Contains rest w → Contains (if b then c ∷ rest else rest) w
drawn_later true c w rest (i, l, e) = (suc i, omega (arith, l), e)
drawn_later false c w rest h = h

-- the symbol is that of the choice of a point whose row draws it, by its number from a first one on
record IsChoiceOf (p : Program) (n : ℕ) (points : List Point) (w : List ℕ) : Type 0 where
  at : ℕ
  point : Point
  is : slice_get points at ≡ Some point
  drawn : draws (file_row p point.at) ≡ true
  name : w ≡ choice_name (n + at)

names_to : (p : Program) (n : ℕ) (points : List Point) (w : List ℕ) → Contains (drawn_names p n points) w → IsChoiceOf p n points w
names_to p n [] w h = absurd (omega (arith, h.1))
names_to p n (q ∷ qs) w h = elim (drawn_by (draws (file_row p q.at)) (choice_name n) w (drawn_names p (n + 1) qs) h) [
  | inl t ↦ record { at = 0; point = q; is = refl; drawn = t.0; name = t.1 ∙ ap choice_name (let e : n ≡ n + 0 = omega arith in e) }
  | inr t ↦ (let r = names_to p (n + 1) qs w t in
      record {
        at = suc r.at;
        point = r.point;
        is = r.is;
        drawn = r.drawn;
        name = r.name
            ∙ ap choice_name (let e : n + 1 + r.at ≡ n + suc r.at = omega arith in e);
      })
]

names_from : (p : Program) (n : ℕ) (points : List Point) (at : ℕ) (point : Point) → slice_get points at ≡ Some point → draws (file_row p point.at) ≡ true →
    Contains (drawn_names p n points) (choice_name (n + at))
names_from p n [] at point e d = absurd (omega (arith, slice_get_within [] at point e))
names_from p n (q ∷ qs) zero point e d =
    let same : q ≡ point = cc in
    let z : n ≡ n + 0 = omega arith in
    subst (λ (m : ℕ). Contains (drawn_names p n (q ∷ qs)) (choice_name m)) z
    (drawn_first (draws (file_row p q.at)) (choice_name n) (drawn_names p (n + 1) qs) (ap (λ (v : Point). draws (file_row p v.at)) same ∙ d))
names_from p n (q ∷ qs) (suc i) point e d =
    let z : n + 1 + i ≡ n + suc i = omega arith in
    drawn_later (draws (file_row p q.at)) (choice_name n) (choice_name (n + suc i)) (drawn_names p (n + 1) qs)
    (subst (λ (m : ℕ). Contains (drawn_names p (n + 1) qs) (choice_name m)) z (names_from p (n + 1) qs i point e d))

-- no point is below itself
not_below_itself : (s : List ℕ) → is_below_from_end s s ≡ false
not_below_itself [] = refl
not_below_itself (a ∷ s) = rw (not_below_itself s) (never (bytes_eq s s) (nat_lt a a) (grind (arith, nat_tests)))
  where
    never : (b c : Bool) → c ≡ false → (b && c) ≡ false
    never true c h = h
    never false c h = refl

settled : (b e g : Bool) → (false || (b && ((false || (g && false)) || (e && false)))) ≡ false
settled true true true = refl
settled true true false = refl
settled true false true = refl
settled true false false = refl
settled false e g = refl

itself_by : (a b c d e f g : Bool) → a ≡ false → c ≡ false → d ≡ false → f ≡ false → (a || (b && ((c || (g && d)) || (e && f)))) ≡ false
itself_by a b c d e f g u v w x = rw (u, v, w, x) (settled b e g)

pub point_itself : (q : Point) → is_point_below q q ≡ false
point_itself q =
    itself_by (nat_lt q.turns q.turns) (q.turns == q.turns) (nat_lt (length q.stack) (length q.stack)) (is_below_from_end q.stack q.stack)
    (bytes_eq q.stack q.stack)
    (nat_lt q.at q.at) (length q.stack == length q.stack) (grind (arith, nat_tests)) (grind (arith, nat_tests)) (not_below_itself q.stack)
    (grind (arith, nat_tests))

-- points in their order are each once
once : (points : List Point) → AllPairs (λ x y. is_point_below x y ≡ true) points → (i j : ℕ) → i < j → j < length points →
    slice_get points i ≢ slice_get points j
once points order i j l m e =
    let d : Point = record { turns = 0; stack = []; at = 0 } in
    let f = slice_get-get_or points i d (omega (arith, l, m)) in
    let g = slice_get-get_or points j d m in
    let same : get_or points i d ≡ get_or points j d = (let q = sym f ∙ e ∙ g in cc) in
    let h : is_point_below (get_or points j d) (get_or points j d) ≡ true =
    subst (λ (v : Point). is_point_below v (get_or points j d) ≡ true) same (order i j d l m) in
    let t : false ≡ true = sym (point_itself (get_or points j d)) ∙ h in cc

pub draws_same : (row : Option Row) → draws row ≡ row_draws row
draws_same None = refl
draws_same (Some row) = refl

module _ (p : Program) (k : ℕ) (u : UnrolledProgram) (un : IsUnrolling p k u) where
  -- the point at a place draws as the row at its address
  pub place_draws : (i : ℕ) → i < length u.points → draws (file_row p (point_at u i).point.at) ≡ (point_at u i).draws
  place_draws i l = draws_same (file_row p (point_at u i).point.at) ∙ sym (un.places i l).counted.draws

  module _ (points : List Point) (order : AreInOrder u points) where
    pub numbered : AreNumbered p k points
    numbered = (
      record {
        all = λ q is. (order.same q).1 (un.points.all q is);
        only = λ q c. un.points.only q ((order.same q).0 c);
        once = once points order.order;
      },
      order.order,
    )

    -- the place of a point among the numbered ones
    pub place_of : (at : ℕ) (point : Point) → slice_get points at ≡ Some point → (i : ℕ) × (i < length u.points) × ((point_at u i).point ≡ point)
    place_of at point e =
        let l = slice_get_within points at point e in
        let c : Contains points point = (at, l, get_or_from_slice_get points at point point e) in
        let m = (order.same point).0 c in
        let small : m.0 < length u.points = omega (arith, m.1, length-map u.points (λ (v : UnrolledPoint). v.point)) in
        (m.0, small, sym (get_or-map (λ v. v.point) u.points m.0 no_point point small) ∙ m.2)

    symbols_to : (layout : Layout) (w : List ℕ) → IsSymbolOf u layout points w → Contains (symbols_of p layout points) w
    symbols_to layout w (inl c) = Contains-append_left (value_names layout) (codes "mem" ∷ drawn_names p 0 points) w c
    symbols_to layout w (inr (inl e)) = Contains-append_right (value_names layout) (codes "mem" ∷ drawn_names p 0 points) w (0, omega arith, sym e)
    symbols_to layout w (inr (inr (i, n, d, is, e))) =
        let drawn = place_draws i d.0 ∙ d.1 in
        let c = names_from p 0 points n (point_at u i).point is drawn in
        let z : 0 + n ≡ n = omega arith in
        let c' : Contains (drawn_names p 0 points) w = subst (λ (v : List ℕ). Contains (drawn_names p 0 points) v) (ap choice_name z ∙ sym e) c in
        Contains-append_right (value_names layout) (codes "mem" ∷ drawn_names p 0 points) w (suc c'.0, omega (arith, c'.1), c'.2)

    drawn_from : (w : List ℕ) → Contains (drawn_names p 0 points) w → IsDrawn u points w
    drawn_from w c =
        let r = names_to p 0 points w c in
        let q = place_of r.at r.point r.is in
        let z : 0 + r.at ≡ r.at = omega arith in
        let d = sym (place_draws q.0 q.1) ∙ ap (λ (v : Point). draws (file_row p v.at)) q.2 ∙ r.drawn in
        (q.0, r.at, (q.1, d), r.is ∙ ap Some (sym q.2), r.name ∙ ap choice_name z)

    further_from : (w : List ℕ) → Contains (codes "mem" ∷ drawn_names p 0 points) w → (w ≡ codes "mem") ⊎ IsDrawn u points w
    further_from w (zero, l, e) = inl (sym e)
    further_from w (suc i, l, e) = inr (drawn_from w (i, omega (arith, l), e))

    symbols_from : (layout : Layout) (w : List ℕ) → Contains (symbols_of p layout points) w → IsSymbolOf u layout points w
    symbols_from layout w c = elim (Contains-append_cases (value_names layout) (codes "mem" ∷ drawn_names p 0 points) w c) [
      | inl t ↦ inl t
      | inr t ↦ inr (further_from w t)
    ]

  -- what is known of the file is a byte that is asked
  known_by : (a b : ℕ) (t : Bool) → is_known_at p a ≡ t → (if t then Some (byte_of_cell (p.loaded a)) else None) ≡ Some b → is_known_at p a ≡ true
  known_by a b true h e = h
  known_by a b false h e = absurd (cc)

  module _ (lawful : HasLawfulRows p) (r : Reading) (question : Question) where
    over : IsTrueOfWalkOver u (is_known_at p) r question ↔ IsTrueOver p (is_known_at p) k r question
    over = walk_answers_over p lawful k u un (is_known_at p) (λ a h. h)
        (λ a i is l. (let asked = asked_is_right p k u un [] (λ b c. absurd (omega (arith, c.1))) in asked.0 _ (asked.1 a i is l))) r question

    pub walk_to : IsTrueOfWalk u r question → IsTrue p k r question
    walk_to t =
        let some : IsTrueOfWalkOver u (is_known_at p) r question = record {
          choice = t.choice;
          entry = record { state = t.entry.state; pc = t.entry.pc; lines = t.entry.lines; bytes = λ a b l e asked. t.entry.bytes a b l e refl };
          ends = t.ends;
        } in
        let there = over.0 some in
        record { choice = t.choice; entry = (entry_is_same p k u un r.state).0 t.entry; ends = there.ends }

    pub walk_from : IsTrue p k r question → IsTrueOfWalk u r question
    walk_from t =
        let here = over.1 (true_over p (is_known_at p) k r question (λ a h. h) t) in
        record { choice = t.choice; entry = (entry_is_same p k u un r.state).1 t.entry; ends = here.ends }

pub script_of_program : (p : Program) → HasLawfulRows p → (k : ℕ) (u : UnrolledProgram) → IsUnrolling p k u →
    (layout : Layout) (question : Question) (text : List ℕ) → TellsScript u layout question text → IsScript p layout k question text
script_of_program p lawful k u un layout question text told =
    let order = told.are_in_order in
    record {
      points = told.points;
      are_numbered = numbered p k u un told.points order;
      middle = told.middle;
      text_is = told.text_is;
      whole_lines = told.whole_lines;
      plain = told.plain;
      commands = told.commands;
      commands_are = told.commands_are;
      declares = λ w. (
        (λ c. symbols_to p k u un told.points order layout w ((told.declares w).0 c)),
        (λ c. (told.declares w).1 (symbols_from p k u un told.points order layout w c)),
      );
      defines = told.defines;
      well_formed = told.well_formed;
      means = λ r is at. (
        (λ t. walk_to p k u un lawful r question ((told.means r is (at ∙ sym un.entry)).0 t)),
        (λ t. (told.means r is (at ∙ sym un.entry)).1 (walk_from p k u un lawful r question t)),
      );
    }

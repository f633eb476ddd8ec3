-- A contract step goes on, and is tried as a whole.
use Rattle.std.proofs.Common.{◌≡◌, ℕ, suc, ◌+◌, ◌*◌, ◌<◌, ◌≤◌, Bool, true, false, ◌&&◌, not, List, [], ◌∷◌, ◌++◌, length, map, refl, ap, sym, ◌∙◌, subst, arith}
use Rattle.std.specs.Prelude.{if◌then◌else◌, ◌^◌, ◌||◌, ◌⊎◌, nat_eq, nat_lt, slice_index, sum_by}
use Rattle.std.proofs.Common.{zero, inl, inr}
use Rattle.std.proofs.Math.Path.{fun_ext}
use Rattle.std.proofs.lemmas.Bool.{cases_lt}
use Rattle.std.specs.List.{list_any}
use Rattle.std.proofs.lemmas.Bool.Decides.{nat_tests}
use Rattle.frame_terms.specs.PassiveFrames.{gift_part}
use Rattle.passify.specs.Plain.{carried}
use Rattle.passify.specs.Rows.{IsGivenAt}
use Rattle.word_spec.specs.Memory.{endian}
use Rattle.word_spec.specs.State.{State}
use Rattle.bilv_spec.specs.Notes.{NoteLine}
use Rattle.bilv_spec.specs.Points.{line_price, bytes_loaded}
use Rattle.bilv_spec.specs.Run.{false_line}
use Rattle.term_spec.specs.Terms.{TermReading, InRange, TermNode, ConstantNode, HasWidth, term_word}
use Rattle.term_spec.specs.Passive.{Denotes, Tells}
use Rattle.walk_spec.specs.Unrolled.{Carried, carried_of}
use Rattle.walk_spec.specs.Sweep.{Held, held_if, hand}
use Rattle.walk_spec.specs.Prices.{line_steps}
use Rattle.frame_spec.specs.Frames.{Content, Contract, content_at, written}
use Rattle.frame_spec.specs.FramePoints.{says_of}
use Rattle.frame_spec.specs.FrameWalk.{UnrolledProgram, Gift, gifted, Aim, Nowhere, PointExit, NotGiven, first_aim, is_line_false, walk_to}
use Rattle.term_dag.specs.Made.{Grew, IsInterned}
use Rattle.term_dag.proofs.Growth.{grew_on, grew_more, inputs_on, interned_grew, interned_inputs}
use Rattle.question_form.specs.declared.unrolled.Edge.{Edge}
use Rattle.question_form.specs.declared.unrolled.Unrolled.{Unrolled}
use Rattle.question_form.specs.FrameViews.{edge_of, top_of}
use Rattle.program_points.specs.Tables.{stack_at}
use Rattle.term_names.specs.declared.names.Names.{Names}
use Rattle.term_names.specs.Views.{form_of, names_of}
use Rattle.note_terms.specs.declared.Now.{Now}
use Rattle.note_terms.specs.Lines.{IsStateOf}
use Rattle.passify.specs.declared.sweep.Sweep.{Sweep}
use Rattle.passify.specs.Calls.{AreGiven, IsGoneOn, StepsHere, left_behind}
use Rattle.passify.specs.Edges.{AreLater, EdgesTried, GoesHere, IsLeftBy, aim_gates, aim_joins, aim_loads, aim_nodes}
use Rattle.passify.specs.Exits.{IsPending}
use Rattle.passify.specs.Plain.{plain}
use Rattle.passify.specs.Rows.{own_edges, own_point}
use Rattle.passify.specs.Situations.{Situation, deciding, goes}
use Rattle.passify.specs.Sweeps.{AreTermsOf, AreWell, ShowsAt, Steps}
use Rattle.passify.proofs.Kept.{denotes_keep, shows_keep, tells_keep, well_keeps, word_keeps}
use Rattle.passify.proofs.Lines.{steps_on}
use Rattle.passify.proofs.Quit.{edges_steps, exits_end}

no_true : false ≡ true → ⊥
no_true e = cc

zero_first : (n : ℕ) → 0 + n ≡ n
zero_first n = omega arith

-- where what is given is not as the contract gives there is no run
nowhere_by : (q : Bool) (u : UnrolledProgram) (entry next : State) (a : Aim) (h : Held) →
    hand (plain u entry (walk_to u entry next (if q then Nowhere else a))) h ≡ held_if q h (hand (plain u entry (walk_to u entry next a)) h)
nowhere_by true u entry next a h = refl
nowhere_by false u entry next a h = refl

module _ (u : Unrolled) (place : ℕ) (k : Contract) (n : Names) (now next : Now) (a c d e : List TermNode) (s z : Sweep) (rest left last yes v pc link : ℕ)
    (later : AreLater (suc place) (own_edges u place)) (w : AreWell a s) (names : AreTermsOf s.entry a n) (terms : AreTermsOf s.entry a now.names.now)
    (wp : HasWidth a 32 now.pc.0) (wr : HasWidth a 1 rest)
    (wy : HasWidth a 1 yes) (is_yes : (x : TermReading) → InRange x → Tells a x yes true) (m2 : IsInterned a c (ConstantNode 32 v) pc)
    (value : v ≡ top_of (stack_at u.frames.items (own_point u place).stack)) (next_names : next.names.now ≡ n) (next_pc : next.pc.0 ≡ pc)
    (m3 : AreGiven c d rest left u.big next now k.gives)
    (tried : EdgesTried u d e s z left last next yes link (own_edges u place) []) (wl : HasWidth d 32 link)
    (link_is : (x : TermReading) → InRange x → term_word x d link ≡ x.regs 0 u.link) where
  abbrev es : List Edge
  es = own_edges u place

  g12 : Grew a c 0 0 0 0 1
  g12 = interned_grew a c (ConstantNode 32 v) pc m2

  g13 : Grew a d (sum_by line_price (says_of k.gives)) (sum_by bytes_loaded (says_of k.gives)) 0 0 (1 + 4 * line_steps (says_of k.gives))
  g13 =
      let price = sum_by line_price (says_of k.gives) in
      let loaded = sum_by bytes_loaded (says_of k.gives) in
      let more = 4 * line_steps (says_of k.gives) in
      grew_more a d (0 + price) (0 + loaded) (0 + 0) (0 + 0) (1 + more) price loaded 0 0 (1 + more) (omega arith) (omega arith) (omega arith) (omega arith)
      (omega arith) (grew_on a c d 0 0 0 0 1 price loaded 0 0 more g12 m3.grew)

  first : Steps a d s s (sum_by line_price (says_of k.gives)) (sum_by bytes_loaded (says_of k.gives)) 0 0 (1 + 4 * line_steps (says_of k.gives)) (λ m. ⊥)
  first = record {
    grew = g13;
    inputs = inputs_on a c d (λ m. ⊥) (interned_inputs a c (ConstantNode 32 v) pc (λ m. ⊥) m2 (λ i. i)) m3.inputs;
    well = well_keeps g13 s m3.typed w;
    like = record { entry = refl; pc = refl; at = refl; places = refl; steps = refl; own = refl };
  }

  module _ (x : TermReading) (r : InRange x) (S : Situation) (leaves : IsLeftBy u S.program) (fits : term_word x a rest ≡ 1 →
      StepsHere u place k a s n now x S) where
    abbrev broken : Bool
    broken = is_line_false (false_line S.program.endian S.gives S.next S.now)

    next_is : StepsHere u place k a s n now x S → IsStateOf c x next (carried_of S.next) S.next.pc
    next_is f = record {
      carried = subst (λ (m : Names). Denotes (form_of m) c x (names_of m) (carried_of S.next)) (sym next_names)
          (denotes_keep g12 x n (carried_of S.next) names.names f.denotes);
      pc = ap (λ (i : ℕ). term_word x c i) next_pc ∙ ap (λ q. q.word) (m2.value x) ∙ value ∙ sym (ap (λ (q : State). q.pc) f.next);
    }

    now_is : StepsHere u place k a s n now x S → IsStateOf c x now (carried_of S.now) S.now.pc
    now_is f = record {
      carried = denotes_keep g12 x now.names.now (carried_of S.now) terms.names f.now_is.carried;
      pc = word_keeps g12 x now.pc.0 wp.0 ∙ f.now_is.pc;
    }

    broken_is : StepsHere u place k a s n now x S → is_line_false (false_line (endian u.big) k.gives S.next S.now) ≡ broken
    broken_is f =
        ap (λ o. is_line_false (false_line o k.gives S.next S.now)) (sym f.endian)
        ∙ ap (λ l. is_line_false (false_line S.program.endian l S.next S.now)) (sym f.gives)

    here : term_word x d left ≡ 1 → GoesHere d s u.big next yes link x S
    here h =
        let f = fits (sym (word_keeps g12 x rest wr.0) ∙ m3.narrows x r h) in
        let is = next_is f in
        record {
          jumps = true;
          to = top_of (stack_at u.frames.items (own_point u place).stack);
          carried = f.content;
          leaving = f.leaving;
          next_state = f.next;
          tells = tells_keep g13 x yes true wy.0 (is_yes x r);
          link_word = link_is x r ∙ sym (ap (λ (q : State). q.regs u.link) f.entry) ∙ ap (λ i. S.entry.regs i) (sym f.link);
          there = record {
            endian = f.endian;
            entry = f.entry;
            is = record {
              carried = subst (λ (m : Names). Denotes (form_of m) d x (names_of m) (carried_of S.next)) (sym next_names)
                  (denotes_keep g13 x n (carried_of S.next) names.names f.denotes);
              pc = ap (λ (i : ℕ). term_word x d i) next_pc ∙ word_keeps m3.grew x pc m2.within ∙ sym (ap (λ (i : ℕ). term_word x c i) next_pc) ∙ is.pc;
            };
          };
        }

    given_pend : (before after : Held) → IsPending a s (suc place) x rest before after (goes S (NotGiven ∷ map (edge_of u) es) before) →
        IsPending d s (suc place) x left before after (goes S (map (edge_of u) es ++ []) before)
    given_pend before after p =
        subst (λ (xs : List PointExit). IsPending d s (suc place) x left before after (goes S xs before)) (sym (exits_end (map (edge_of u) es)))
        (by p.some p.tells p.goes p.shows)
      where
        go : goes S (NotGiven ∷ map (edge_of u) es) before ≡ held_if broken before (goes S (map (edge_of u) es) before)
        go = nowhere_by broken S.program S.entry S.next (first_aim S.program (deciding S) (map (edge_of u) es)) before

        kept : (h : Held) → ShowsAt a s (suc place) x h → ShowsAt d s (suc place) x h
        kept h q = shows_keep g13 s (suc place) x h w q

        some_by : (q : Bool) → Tells d x left (true && not q) → after ≡ held_if q before (goes S (map (edge_of u) es) before) → ShowsAt a s (suc place) x before →
            IsPending d s (suc place) x left before after (goes S (map (edge_of u) es) before)
        some_by true t g q = record {
          some = false;
          tells = t;
          goes = λ e. absurd (no_true e);
          shows = subst (λ (h : Held). ShowsAt d s (suc place) x h) (sym g) (kept before q);
        }
        some_by false t g q = record { some = true; tells = t; goes = λ e. g; shows = kept before q }

        by : (b : Bool) → Tells a x rest b → (b ≡ true → after ≡ goes S (NotGiven ∷ map (edge_of u) es) before) →
            ShowsAt a s (suc place) x (held_if b before after) → IsPending d s (suc place) x left before after (goes S (map (edge_of u) es) before)
        by true t g q =
            let f = fits t in
            some_by broken (subst (λ (y : Bool). Tells d x left (true && not y)) (broken_is f)
            (m3.tells x r true (tells_keep g12 x rest true wr.0 t) (carried_of S.next) (carried_of S.now) S.next.pc S.now.pc (λ y. (next_is f, now_is f))))
            (g refl ∙ go) q
        by false t g q = record {
          some = false;
          tells = m3.tells x r false (tells_keep g12 x rest false wr.0 t) (carried_of S.next) (carried_of S.now) S.next.pc S.now.pc (λ y. absurd (no_true y));
          goes = λ e. absurd (no_true e);
          shows = kept after q;
        }

  pub gone_on : IsGoneOn u place k n now a e s z rest last
  gone_on = record {
    steps = (
        let t = steps_on a d e s s z (λ m. ⊥) _ _ _ _ _ _ _ _ _ _ first (edges_steps u d e s z next.names.now es tried.edges) in
        subst (λ (m : Names). Steps a e s z (sum_by line_price (says_of k.gives) + sum_by (λ y. 35 + aim_gates u m y.aim) es)
        (sum_by bytes_loaded (says_of k.gives) + sum_by (λ y. aim_loads u y.aim) es) 0 (sum_by (λ y. aim_joins y.aim) es)
        (1 + 4 * line_steps (says_of k.gives) + sum_by (λ y. 14 + aim_nodes u m y.aim) es) (λ m. ⊥)) next_names
        (subst (λ (j : ℕ). Steps a e s z (sum_by line_price (says_of k.gives) + sum_by (λ y. 35 + aim_gates u next.names.now y.aim) es)
        (sum_by bytes_loaded (says_of k.gives) + sum_by (λ y. aim_loads u y.aim) es) 0 j
        (1 + 4 * line_steps (says_of k.gives) + sum_by (λ y. 14 + aim_nodes u next.names.now y.aim) es) (λ m. ⊥))
        (zero_first (sum_by (λ y. aim_joins y.aim) es)) t)
        );
    bit = tried.bit;
    tries = λ x r S leaves fits before after p.
        tried.tries x r (suc place) later S leaves (here x r S leaves fits) before after [] (given_pend x r S leaves fits before after p);
  }

-- as it is made of a contract in the code
pub went_on : (u : Unrolled) (place : ℕ) (k : Contract) (n : Names) (now next : Now) (a c d e : List TermNode) (s z : Sweep) (rest left last always v pc link : ℕ)
    (gives : List NoteLine) (list : List Edge) → AreGiven c d rest left u.big next now gives → EdgesTried u d e s z left last next always link list [] →
    gives ≡ k.gives → list ≡ own_edges u place → next.names.now ≡ n → next.pc.0 ≡ pc → AreLater (suc place) (own_edges u place) → AreWell a s →
    AreTermsOf s.entry a n → AreTermsOf s.entry a now.names.now → HasWidth a 32 now.pc.0 → HasWidth a 1 rest → HasWidth a 1 always →
    ((x : TermReading) → InRange x → Tells a x always true) → IsInterned a c (ConstantNode 32 v) pc →
    v ≡ top_of (stack_at u.frames.items (own_point u place).stack) → HasWidth d 32 link →
    ((x : TermReading) → InRange x → term_word x d link ≡ x.regs 0 u.link) → IsGoneOn u place k n now a e s z rest last
went_on u place k n now next a c d e s z rest left last always v pc link gives list given tried gives_are list_is next_names next_pc later w names terms wp wr wy
    is_yes m2 value wl link_is =
    gone_on u place k n now next a c d e s z rest left last always v pc link later w names terms wp wr wy is_yes m2 value next_names next_pc
    (subst (λ (l : List NoteLine). AreGiven c d rest left u.big next now l) gives_are given)
    (subst (λ (l : List Edge). EdgesTried u d e s z left last next always link l []) list_is tried) wl link_is

-- what is given by a contract step is what terms have of a part
module _ (f : UnrolledProgram) (k : Contract) (to place : ℕ) (x : TermReading) (part : ℕ) (is : part ≡ gift_part place) (c given : Content)
    (at : IsGivenAt x place given c) (s : State) (of : s ≡ content_at c s.pc) where
  abbrev gift : Gift
  gift = record { to = to; writes = k.writes; gives = k.gives; registers = k.registers; flags = k.flags }

  abbrev behind : Carried
  behind = left_behind x part k (written f.endian k.writes s) (carried c)

  picked : (has may : Bool) (m n o : ℕ) → has ≡ true → m ≡ n → (if may then m else o) ≡ (if has && not may then o else n)
  picked true true m n o e h = h
  picked true false m n o e h = refl
  picked false may m n o e h = absurd (cc)

  pub gift_regs : (r : ℕ) → list_any (nat_eq r) f.registers ≡ true → behind.regs r ≡ (gifted f gift s given).regs r
  gift_regs r h =
      picked (list_any (nat_eq r) f.registers) (list_any (nat_eq r) k.registers) (x.regs part r) (given.regs r) (c.regs r) h
      (ap (λ z. x.regs z r) is ∙ sym (ap (λ z. z r) at.regs))
      ∙ ap (λ (z : State). if list_any (nat_eq r) f.registers && not (list_any (nat_eq r) k.registers) then z.regs r else given.regs r) (sym of)

  pub gift_flags : (g : ℕ) → nat_lt g f.flags ≡ true → behind.flags g ≡ (gifted f gift s given).flags g
  gift_flags g h =
      picked (nat_lt g f.flags) (list_any (nat_eq g) k.flags) (x.flags part g) (given.flags g) (c.flags g) h
      (ap (λ z. x.flags z g) is ∙ sym (ap (λ z. z g) at.flags))
      ∙ ap (λ (z : State). if nat_lt g f.flags && not (list_any (nat_eq g) k.flags) then z.flags g else given.flags g) (sym of)

  byte_low : (m : Bool) (a : ℕ) (p q o : ℕ) → a < 2 ^ 32 → p ≡ q → (if m then p else o) ≡ (if nat_lt a 4294967296 && not m then o else q)
  byte_low true a p q o l e = e ∙ sym (ap (λ b. if b then o else q) (no_both (nat_lt a 4294967296)))
    where
      no_both : (b : Bool) → (b && false) ≡ false
      no_both true = refl
      no_both false = refl
  byte_low false a p q o l e = let t : nat_lt a 4294967296 ≡ true = grind (arith, nat_tests) in sym (ap (λ b. if b && true then o else q) t)

  byte_high : (m : Bool) (a : ℕ) (p q o : ℕ) → 2 ^ 32 ≤ a → m ≡ false → q ≡ o → (if m then p else o) ≡ (if nat_lt a 4294967296 && not m then o else q)
  byte_high true a p q o l e h = absurd (cc)
  byte_high false a p q o l e h = let t : nat_lt a 4294967296 ≡ false = grind (arith, nat_tests) in sym h ∙ sym (ap (λ b. if b && true then o else q) t)

-- the state behind a step, as terms have it
pub gift_denotes : (f : UnrolledProgram) (k : Contract) (to place : ℕ) (x : TermReading) (part : ℕ) → part ≡ gift_part place → (c given : Content) →
    IsGivenAt x place given c → (at : ℕ) → (nodes : List TermNode) (n : Names) (places : List ℕ) → places ≡ written f.endian k.writes (content_at c at) →
    ((a : ℕ) → 2 ^ 32 ≤ a → list_any (nat_eq a) places ≡ false) → f.registers ≡ (form_of n).registers → f.flags ≡ (form_of n).flags →
    Denotes (form_of n) nodes x (names_of n) (left_behind x part k places (carried c)) →
    Denotes (form_of n) nodes x (names_of n)
    (carried (gifted f (record { to = to; writes = k.writes; gives = k.gives; registers = k.registers; flags = k.flags }) (content_at c at) given))
gift_denotes f k to place x part is c given g at nodes n places same far rs fs d =
    let s = content_at c at in
    let e = subst (λ (l : List ℕ). Denotes (form_of n) nodes x (names_of n) (left_behind x part k l (carried c))) same d in
    record {
      registers = λ i l. e.registers i l ∙ gift_regs f k to place x part is c given g s refl (slice_index (form_of n).registers i)
          (subst (λ (z : List ℕ). list_any (nat_eq (slice_index (form_of n).registers i)) z ≡ true) (sym rs) (listed_at (form_of n).registers i l));
      flags = λ i l. e.flags i l ∙ gift_flags f k to place x part is c given g s refl i (below i (subst (λ z. i < z) (sym fs) l));
      memory = e.memory ∙ fun_ext (λ a. by_place a (cases_lt a (2 ^ 32)));
    }
  where
    listed_at : (xs : List ℕ) (i : ℕ) → i < length xs → list_any (nat_eq (slice_index xs i)) xs ≡ true
    listed_at [] i l = absurd (omega (arith, l))
    listed_at (y ∷ xs) zero l = ap (λ b. b || list_any (nat_eq y) xs) (let e : nat_eq y y ≡ true = grind (arith, nat_tests) in e)
    listed_at (y ∷ xs) (suc i) l = right (nat_eq (slice_index xs i) y) (list_any (nat_eq (slice_index xs i)) xs) (listed_at xs i (omega (arith, l)))
      where
        right : (p q : Bool) → q ≡ true → (p || q) ≡ true
        right true q h = refl
        right false q h = h

    below : (i : ℕ) → i < f.flags → nat_lt i f.flags ≡ true
    below i l = grind (arith, nat_tests)

    by_place : (a : ℕ) → (a < 2 ^ 32) ⊎ (2 ^ 32 ≤ a) →
        (if list_any (nat_eq a) (written f.endian k.writes (content_at c at)) then x.mem part a else c.mem a)
        ≡ (gifted f (record { to = to; writes = k.writes; gives = k.gives; registers = k.registers; flags = k.flags }) (content_at c at) given).mem a
    by_place a (inl l) =
        byte_low f k to place x part is c given g (content_at c at) refl (list_any (nat_eq a) (written f.endian k.writes (content_at c at))) a (x.mem part a) (given.mem a)
        (c.mem a) l (ap (λ z. x.mem z a) is ∙ sym (g.low a l))
    by_place a (inr l) =
        byte_high f k to place x part is c given g (content_at c at) refl (list_any (nat_eq a) (written f.endian k.writes (content_at c at))) a (x.mem part a) (given.mem a)
        (c.mem a) l (ap (list_any (nat_eq a)) (sym same) ∙ far a l) (g.high a l)

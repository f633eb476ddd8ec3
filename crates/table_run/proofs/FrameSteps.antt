-- Heads, and the steps of a frame.
use Rattle.std.proofs.Common.{◌≡◌, ℕ, zero, suc, ◌≤◌, ◌<◌, List, [], ◌∷◌, length, get_or, map, true, false, refl, sym, ap, ◌∙◌, subst, arith, inl, inr, eq-eqb, ne_eqb}
use Rattle.std.specs.Prelude.{Bool, Option, Some, ◌==◌, ◌||◌, ◌&&◌, nat_eq, not, if◌then◌else◌}
use Rattle.std.specs.List.{list_any}
use Rattle.std.proofs.lemmas.Bool.{cases_eq}
use Rattle.std.proofs.lemmas.List.Folds.{list_any_none}
use Rattle.word_spec.specs.Memory.{Endian}
use Rattle.word_spec.specs.State.{State}
use Rattle.machine_spec.specs.Endings as events
use Rattle.bilv_spec.specs.Notes as notes
use Rattle.bilv_spec.specs.Notes.{value, is_true}
use Rattle.bilv_spec.specs.Run.{Program, Place, Stops, Arrives, Exits, step, false_assert}
use Rattle.frame_spec.specs.Frames.{Frame, event_of, is_head, invariants_of}
use Rattle.frame_spec.specs.FrameRuns.{FrameStep, Halts, GoesTo, Reaches, Leaves, frame_step, settles}
use Rattle.notes_value.specs.NoteViews.{assert_of}
use Rattle.notes_value.specs.declared.notes.Assert.{Assert}
use Rattle.notes_index.specs.Indexed.{ArePlacesOf, assert_places}
use Rattle.table_run.specs.FrameEnds.{frame_of, IsFrameStepEnd}
use Rattle.table_run.specs.declared.ending.FrameStepEnd.{FrameStepEnd}
use Rattle.table_run.proofs.Hits.{place_at, in_group}

-- a step's end that is known
pub frame_end_is : (e x : FrameStepEnd) (state : State) (stack : List ℕ) (step : FrameStep) → e ≡ x → IsFrameStepEnd e state stack step →
    IsFrameStepEnd x state stack step
frame_end_is e x state stack step same is = subst (λ (y : FrameStepEnd). IsFrameStepEnd y state stack step) same is

or_true : (b : Bool) → (b || true) ≡ true
or_true true = refl
or_true false = refl

module _ (p : Program) (invariants : List ℕ) where
  abbrev f : Frame
  f = frame_of p invariants

  -- ---- steps

  module _ (entry : State) (c : Place) (choice : ℕ) where
    pub halts : (e : events.Event) → step p entry c choice ≡ Stops e → frame_step f entry c choice ≡ Halts (event_of f e)
    halts e is = ap (settles f entry c) is

    pub leaves : (s : State) → step p entry c choice ≡ Exits s → frame_step f entry c choice ≡ Leaves s
    leaves s is = ap (settles f entry c) is

    pub lands : (d : Place) (b : Bool) → step p entry c choice ≡ Arrives d → b ≡ is_head f d.state.pc →
        frame_step f entry c choice ≡ (if b then Reaches d else GoesTo d)
    lands d b is head = ap (settles f entry c) is ∙ sym (ap (λ (z : Bool). if z then Reaches d else GoesTo d) head)

  -- ---- heads

  abbrev stands : ℕ → notes.Assert → Bool
  stands at a = a.at == at

  module _ (at : ℕ) where
    head_more : (a : Assert) (rest : List Assert) → list_any (stands at) (invariants_of f (map assert_of (a ∷ rest)))
        ≡ ((list_any (nat_eq a.line) invariants && (a.at == at)) || list_any (stands at) (invariants_of f (map assert_of rest)))
    head_more a rest = by (list_any (nat_eq a.line) invariants)
      where
        by : (b : Bool) → list_any (stands at) (if b then assert_of a ∷ invariants_of f (map assert_of rest) else invariants_of f (map assert_of rest))
            ≡ ((b && (a.at == at)) || list_any (stands at) (invariants_of f (map assert_of rest)))
        by true = refl
        by false = refl

    head_some : (asserts : List Assert) (k : ℕ) (e : Assert) → k < length asserts → (get_or asserts k e).at ≡ at
        → list_any (nat_eq (get_or asserts k e).line) invariants ≡ true → list_any (stands at) (invariants_of f (map assert_of asserts)) ≡ true
    head_some [] k e w here has = absurd (omega arith)
    head_some (a ∷ rest) zero e w here has =
        head_more a rest
        ∙ ap (λ b. (b && (a.at == at)) || list_any (stands at) (invariants_of f (map assert_of rest))) has
        ∙ ap (λ b. b || list_any (stands at) (invariants_of f (map assert_of rest))) (eq-eqb a.at at here)
    head_some (a ∷ rest) (suc k) e w here has =
        head_more a rest
        ∙ ap (λ b. (list_any (nat_eq a.line) invariants && (a.at == at)) || b) (head_some rest k e (omega arith) here has)
        ∙ or_true (list_any (nat_eq a.line) invariants && (a.at == at))

    no_test : (b : Bool) → b ≡ false → (x : Bool) → (b && x) ≡ false
    no_test b is x = ap (λ z. z && x) is

    and_no : (b x : Bool) → x ≡ false → (b && x) ≡ false
    and_no true x is = is
    and_no false x is = refl

    head_none : (asserts : List Assert)
        → ((k : ℕ) (e : Assert) → k < length asserts → (get_or asserts k e).at ≡ at → list_any (nat_eq (get_or asserts k e).line) invariants ≡ false)
        → list_any (stands at) (invariants_of f (map assert_of asserts)) ≡ false
    head_none [] none = refl
    head_none (a ∷ rest) none =
        head_more a rest
        ∙ ap (λ b. (list_any (nat_eq a.line) invariants && (a.at == at)) || b) (head_none rest (λ k e w. none (suc k) e (omega arith)))
        ∙ ap (λ b. b || false) (elim (cases_eq a.at at) as (λ _. (list_any (nat_eq a.line) invariants && (a.at == at)) ≡ false) [
          | inl here ↦ no_test (list_any (nat_eq a.line) invariants) (none 0 a (omega arith) here) (a.at == at)
          | inr away ↦ and_no (list_any (nat_eq a.line) invariants) (a.at == at) (ne_eqb a.at at away)
        ])

    pub no_invariants : length invariants ≡ 0 → (asserts : List Assert) → false ≡ list_any (stands at) (invariants_of f (map assert_of asserts))
    no_invariants none asserts =
        sym (head_none asserts (λ k e w here. list_any_none (nat_eq (get_or asserts k e).line) invariants (λ i d l. absurd (omega arith))))

    -- the line of a place of the group is an invariant
    pub head_found : (asserts : List Assert) (index : List (ℕ × ℕ)) (low high i : ℕ) (d : ℕ × ℕ) (e : Assert) →
        ArePlacesOf (assert_places asserts) index at low high → low ≤ i → i < high →
        list_any (nat_eq (get_or asserts (get_or index i d).1 e).line) invariants ≡ true →
        true ≡ list_any (stands at) (invariants_of f (map assert_of asserts))
    head_found asserts index low high i d e group from upto has =
        let place = place_at (λ (x : Assert). x.at) asserts index at low high group i d e from upto in
        sym (head_some asserts (get_or index i d).1 e place.0 place.1 has)

    -- it is none at each of them
    pub no_head : (asserts : List Assert) (index : List (ℕ × ℕ)) (low high : ℕ) → ArePlacesOf (assert_places asserts) index at low high →
        ((j : ℕ) (d : ℕ × ℕ) (e : Assert) → low ≤ j → j < high → list_any (nat_eq (get_or asserts (get_or index j d).1 e).line) invariants ≡ false) →
        false ≡ list_any (stands at) (invariants_of f (map assert_of asserts))
    no_head asserts index low high group none =
        sym (head_none asserts (λ k e w here.
        let found = in_group (λ (x : Assert). x.at) asserts index at low high group k e w here in
        subst (λ n. list_any (nat_eq (get_or asserts n e).line) invariants ≡ false) (found.3 (0, 0)) (none found.0 (0, 0) e found.1 found.2)))

  -- ---- the first invariant that is false

  module _ (o : Endian) (now entry : State) where
    abbrev first : List Assert → Option ℕ
    first asserts = false_assert o (invariants_of f (map assert_of asserts)) now entry

    first_more : (a : Assert) (rest : List Assert) → first (a ∷ rest) ≡ (if list_any (nat_eq a.line) invariants
        then (if (a.at == now.pc) && not (is_true (value o (assert_of a).says now entry)) then Some a.line else first rest) else first rest)
    first_more a rest = by (list_any (nat_eq a.line) invariants)
      where
        by : (b : Bool) → false_assert o (if b then assert_of a ∷ invariants_of f (map assert_of rest) else invariants_of f (map assert_of rest)) now entry
            ≡ (if b then (if (a.at == now.pc) && not (is_true (value o (assert_of a).says now entry)) then Some a.line else first rest) else first rest)
        by true = refl
        by false = refl

    abbrev passed : Bool → Bool → Bool → Option ℕ → ℕ → Option ℕ
    passed b here holds rest line = if b then (if here && not holds then Some line else rest) else rest

    passed_away : (b here holds : Bool) (rest : Option ℕ) (line : ℕ) → here ≡ false → passed b here holds rest line ≡ rest
    passed_away true here holds rest line is = ap (λ z. if z && not holds then Some line else rest) is
    passed_away false here holds rest line is = refl

    passed_true : (b here holds : Bool) (rest : Option ℕ) (line : ℕ) → holds ≡ true → passed b here holds rest line ≡ rest
    passed_true true true holds rest line is = ap (λ z. if not z then Some line else rest) is
    passed_true true false holds rest line is = refl
    passed_true false here holds rest line is = refl

    pub first_away : (a : Assert) (rest : List Assert) → (a.at == now.pc) ≡ false → first (a ∷ rest) ≡ first rest
    first_away a rest away =
        first_more a rest
        ∙ passed_away (list_any (nat_eq a.line) invariants) (a.at == now.pc) (is_true (value o (assert_of a).says now entry)) (first rest) a.line away

    pub first_other : (a : Assert) (rest : List Assert) → list_any (nat_eq a.line) invariants ≡ false → first (a ∷ rest) ≡ first rest
    first_other a rest other =
        first_more a rest
        ∙ ap (λ b. passed b (a.at == now.pc) (is_true (value o (assert_of a).says now entry)) (first rest) a.line) other

    pub first_true : (a : Assert) (rest : List Assert) → is_true (value o (assert_of a).says now entry) ≡ true → first (a ∷ rest) ≡ first rest
    first_true a rest holds =
        first_more a rest
        ∙ passed_true (list_any (nat_eq a.line) invariants) (a.at == now.pc) (is_true (value o (assert_of a).says now entry)) (first rest) a.line holds

    pub first_false : (a : Assert) (rest : List Assert) → (a.at == now.pc) ≡ true → list_any (nat_eq a.line) invariants ≡ true →
        is_true (value o (assert_of a).says now entry) ≡ false → first (a ∷ rest) ≡ Some a.line
    first_false a rest here one fails =
        first_more a rest
        ∙ ap (λ b. passed b (a.at == now.pc) (is_true (value o (assert_of a).says now entry)) (first rest) a.line) one
        ∙ ap (λ b. passed true b (is_true (value o (assert_of a).says now entry)) (first rest) a.line) here
        ∙ ap (λ b. passed true true b (first rest) a.line) fails

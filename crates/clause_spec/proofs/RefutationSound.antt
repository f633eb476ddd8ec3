-- No valuation satisfies the clauses of a refutation.
use Rattle.std.proofs.Common.{◌≡◌, ℕ, zero, suc, ◌+◌, Bool, true, false, not, ◌||◌, List, [], ◌∷◌, Option, Some, None, refl, inl, inr}
use Rattle.std.specs.Prelude.{nat_eq, ◌==◌, nat_le, slice_get, max, if◌then◌else◌, Contains}
use Rattle.std.specs.List.{list_any}
use Rattle.std.proofs.lemmas.Option.{slice_get_within, get_or_from_slice_get}
use Rattle.std.proofs.lemmas.Bool.{cases_Bool, and_parts, or_cases, both_ways}
use Rattle.clause_spec.specs.Clauses.{Literal, Clause, same, same_sign, opposite, has, literal_value, clause_value, Satisfies, Unsatisfiable}
use Rattle.clause_spec.specs.UnitPropagation.{others_false, Includes, negations}
use Rattle.clause_spec.specs.Refutation.{Hint, ById, Negative, LogLine, Add, Delete, Bad, Look, Conflict, UnitOf, Other, Cause, IdNotAbove, VariableAbove, Tautology, NegativeHint, NotOfGrammar, Present, at_start, present_after, after_look, after_lookup, judge_hints, added, Known, known_at_start, known_after, known_after_line, is_empty_clause, first_of_two, judge, judge_added, judge_of_grammar, is_of_grammar, after_judge, first_refusal, IsRefutation, some_above, is_tautology, some_negative, look_of}
use Rattle.clause_spec.proofs.Looks.{same-true, or_left, look-conflict, look-unit, all_false}

pub get-contains : {X : Type 0} (xs : List X) (i : ℕ) (x : X) → slice_get xs i ≡ Some x → Contains xs x
get-contains xs i x h = (i, slice_get_within xs i x h, get_or_from_slice_get xs i x x h)

module _ (v : ℕ → Bool) where
  opposite_false : (x b : Bool) → same_sign x (not b) ≡ true → same_sign x b ≡ false
  opposite_false true true h = cc
  opposite_false true false h = refl
  opposite_false false true h = refl
  opposite_false false false h = cc

  back : (x b : Bool) → same_sign x (not b) ≡ false → same_sign x b ≡ true
  back true true h = refl
  back true false h = cc
  back false true h = cc
  back false false h = refl

  opposite_true : (x b : Bool) → same_sign x b ≡ false → same_sign x (not b) ≡ true
  opposite_true true true h = cc
  opposite_true true false h = refl
  opposite_true false true h = refl
  opposite_true false false h = cc

  pub all_false-false : (holds : Literal → Bool) (c : Clause) → Includes holds (literal_value v) → all_false holds c ≡ true → clause_value v c ≡ false
  all_false-false holds [] i h = refl
  all_false-false holds (m ∷ ms) i h =
      let p = and_parts (holds (opposite m)) (all_false holds ms) h in
      rw (opposite_false (v m.variable) m.positive (i (opposite m) p.0)) (all_false-false holds ms i p.1)

  pub unit-true : (holds : Literal → Bool) (l : Literal) (c : Clause) → Includes holds (literal_value v) → others_false holds l c ≡ true →
      clause_value v c ≡ true → literal_value v l ≡ true
  unit-true holds l [] i h t = absurd (cc)
  unit-true holds l (m ∷ ms) i h t =
      let p = and_parts (same m l || holds (opposite m)) (others_false holds l ms) h in
      elim (or_cases (literal_value v m) (clause_value v ms) t) [
        | inl a ↦ elim (or_cases (same m l) (holds (opposite m)) p.0) [
          | inl s ↦ rw (← same-true m l s) a
          | inr s ↦ absurd (both_ways (literal_value v m) (opposite_false (v m.variable) m.positive (i (opposite m) s)) a)
        ]
        | inr a ↦ unit-true holds l ms i p.1 a
      ]

  abbrev pub AreTrue : Present → Type 0
  AreTrue p = (i : ℕ) (c : Clause) → p i ≡ Some c → clause_value v c ≡ true

  pub more : (holds : Literal → Bool) → Includes holds (literal_value v) → (l : Literal) → literal_value v l ≡ true → Includes (added l holds) (literal_value v)
  more holds i l lt m h = elim (or_cases (same l m) (holds m) h) [
    | inl s ↦ rw (← same-true l m s) lt
    | inr a ↦ i m a
  ]

  -- what follows a hint
  hints-look : (holds : Literal → Bool) → Includes holds (literal_value v) → (go : Literal → Option Cause) →
      ((l : Literal) → literal_value v l ≡ true → go l ≡ None → ⊥)
      → (c : Clause) → clause_value v c ≡ true → (k : Look) → look_of holds c ≡ k → after_look k go ≡ None → ⊥
  hints-look holds i go next c ct Conflict e h = both_ways (clause_value v c) (all_false-false holds c i (look-conflict holds c e)) ct
  hints-look holds i go next c ct (UnitOf l) e h =
      let u = look-unit holds c l e in next l (unit-true holds l c i u.1 ct) h
  hints-look holds i go next c ct Other e h = cc

  hints-found : (holds : Literal → Bool) → Includes holds (literal_value v) → (go : Literal → Option Cause) →
      ((l : Literal) → literal_value v l ≡ true → go l ≡ None → ⊥)
      → (o : Option (Clause)) → ((c : Clause) → o ≡ Some c → clause_value v c ≡ true)
      → after_lookup o holds go ≡ None → ⊥
  hints-found holds i go next None f h = cc
  hints-found holds i go next (Some c) f h = hints-look holds i go next c (f c refl) (look_of holds c) refl h

  hints-sound : (p : Present) → AreTrue p → (hs : List Hint) → (holds : Literal → Bool) → Includes holds (literal_value v)
      → judge_hints p holds hs ≡ None → ⊥
  hints-sound p t [] holds i h = cc
  hints-sound p t (Negative n ∷ hs) holds i h = cc
  hints-sound p t (ById j ∷ hs) holds i h =
      hints-found holds i (λ l. judge_hints p (added l holds) hs)
      (λ l lt g. hints-sound p t hs (added l holds) (more holds i l lt) g) (p j) (t j) h

  pub clause_false-lit : (c : Clause) → clause_value v c ≡ false → (m : Literal) → has c m ≡ true → literal_value v m ≡ false
  clause_false-lit [] h m g = absurd (cc)
  clause_false-lit (x ∷ xs) h m g = elim (cases_Bool (literal_value v x)) [
    | inl e ↦ absurd (both_ways (clause_value v (x ∷ xs)) h (or_left (literal_value v x) (clause_value v xs) e))
    | inr e ↦ elim (or_cases (same x m) (has xs m) g) [
      | inl s ↦ rw (← same-true x m s) e
      | inr s ↦ clause_false-lit xs (rw e at h) m s
    ]
  ]

  negations_true : (c : Clause) → clause_value v c ≡ false → Includes (negations c) (literal_value v)
  negations_true c h m g = back (v m.variable) m.positive (clause_false-lit c h (opposite m) g)

  -- an accepted clause is true where the present clauses are
  pub clause-sound : (p : Present) → AreTrue p → (c : Clause) (hs : List Hint) → judge_hints p (negations c) hs ≡ None → clause_value v c ≡ true
  clause-sound p t c hs h = elim (cases_Bool (clause_value v c)) [
    | inl e ↦ e
    | inr e ↦ absurd (hints-sound p t hs (negations c) (negations_true c e) h)
  ]

  first_none : (b : Bool) (e : Cause) (r : Option Cause) → first_of_two b e r ≡ None → r ≡ None
  first_none true e r h = cc
  first_none false e r h = h

  pub added-judged : (n : ℕ) (k : Known) (id : ℕ) (c : Clause) (hs : List Hint) → judge_added n k id c hs ≡ None
      → judge_hints k.present (negations c) hs ≡ None
  added-judged n k id c hs h =
      let r4 = judge_hints k.present (negations c) hs in
      let r3 = first_of_two (some_negative hs) NegativeHint r4 in
      let r2 = first_of_two (is_tautology c) Tautology r3 in
      let r1 = first_of_two (some_above n c) VariableAbove r2 in
      first_none (some_negative hs) NegativeHint r4
      (first_none (is_tautology c) Tautology r3
      (first_none (some_above n c) VariableAbove r2
      (first_none (nat_le id k.last) IdNotAbove r1 h)))

  present-more : (p : Present) → AreTrue p → (id : ℕ) (c : Clause) → clause_value v c ≡ true → (i : ℕ) (d : Clause) →
      (if i == id then Some c else p i) ≡ Some d → clause_value v d ≡ true
  present-more p t id c ct i d h = elim (cases_Bool (i == id)) [
    | inl e ↦ let g : Some c ≡ Some d = rw e at h in let q : c ≡ d = cc in rw (← q) ct
    | inr e ↦ t i d (rw e at h)
  ]

  present-less : (p : Present) → AreTrue p → (b : Bool) (i : ℕ) (d : Clause) → (if b then None else p i) ≡ Some d → clause_value v d ≡ true
  present-less p t true i d h = absurd (cc)
  present-less p t false i d h = t i d h

  not-ended : (c : Clause) → clause_value v c ≡ true → is_empty_clause c ≡ false
  not-ended [] h = absurd (cc)
  not-ended (x ∷ xs) h = refl

  after-none : (o : Option Cause) (line : ℕ) (rest : Option (ℕ × Cause)) → after_judge o line rest ≡ None → (o ≡ None) × (rest ≡ None)
  after-none None line rest h = (refl, h)
  after-none (Some e) line rest h = cc

  of_grammar : (n : ℕ) (k : Known) (l : LogLine) → judge n k l ≡ None → judge_of_grammar n k l ≡ None
  of_grammar n k l h = first_none (not (is_of_grammar l)) NotOfGrammar (judge_of_grammar n k l) h

  log-sound : (n : ℕ) (k : Known) → AreTrue k.present → k.ended ≡ false → (line : ℕ) (ls : List LogLine)
      → first_refusal n k line ls ≡ None → ⊥
  log-sound n k t e line [] h = let g = rw e at h in cc
  log-sound n k t e line (Bad ∷ ls) h = cc
  log-sound n k t e line (Delete id ids ∷ ls) h =
      let b = after-none (judge n k (Delete id ids)) line (first_refusal n (known_after k (Delete id ids)) (line + 1) ls) h in
      log-sound n (record { last = max k.last id; present = present_after k.present (Delete id ids); ended = false })
      (λ i d g. present-less k.present t (list_any (nat_eq i) ids) i d g) refl (line + 1) ls (rw e at b.1)
  log-sound n k t e line (Add id c hints ∷ ls) h =
      let b = after-none (judge n k (Add id c hints)) line (first_refusal n (known_after k (Add id c hints)) (line + 1) ls) h in
      let m = of_grammar n k (Add id c hints) b.0 in
      let g : judge_added n k id c hints ≡ None = rw e at m in
      let ct = clause-sound k.present t c hints (added-judged n k id c hints g) in
      log-sound n (known_after_line k (Add id c hints)) (present-more k.present t id c ct) (not-ended c ct) (line + 1) ls (rw e at b.1)

  start-true : (cs : List Clause) → Satisfies v cs → AreTrue (at_start cs)
  start-true cs s zero c h = absurd (cc)
  start-true cs s (suc i) c h = s c (get-contains cs i c h)

-- a refutation's clauses have no satisfying valuation
pub refutation_sound : (n : ℕ) (cs : List Clause) (ls : List LogLine) → IsRefutation n cs ls → Unsatisfiable cs
refutation_sound n cs ls h v s = log-sound v n (known_at_start cs) (start-true v cs s) refl 1 ls h

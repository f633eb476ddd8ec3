-- Hints that lead to a conflict show one by unit propagation.
use Rattle.std.proofs.Common.{◌≡◌, ℕ, Bool, true, ◌||◌, List, [], ◌∷◌, Option, Some, None, refl, sym, ap, ◌∙◌, inl, inr}
use Rattle.std.specs.Prelude.{Contains}
use Rattle.std.proofs.lemmas.Bool.{and_parts, or_cases, and_from}
use Rattle.clause_spec.specs.Clauses.{Literal, Clause, same, opposite, has}
use Rattle.clause_spec.specs.UnitPropagation.{others_false, IsClosed, Includes, Conflicts, negations, FollowsByUnits}
use Rattle.clause_spec.specs.Refutation.{Hint, ById, Negative, Look, Conflict, UnitOf, Other, Cause, Present, after_look, after_lookup, judge_hints, added, look_of}
use Rattle.clause_spec.proofs.Looks.{all_false, same-true, or_left, or_right, look-conflict, look-unit}

-- every closed set that includes the literals given includes these
abbrev IsGiven : List Clause → (Literal → Bool) → (Literal → Bool) → Type 0
IsGiven cs given holds = (s : Literal → Bool) → Includes given s → IsClosed cs s → Includes holds s

all_false-lit : (holds : Literal → Bool) (c : Clause) → all_false holds c ≡ true → (m : Literal) → has c m ≡ true → holds (opposite m) ≡ true
all_false-lit holds [] h m g = absurd (cc)
all_false-lit holds (x ∷ xs) h m g =
    let p = and_parts (holds (opposite x)) (all_false holds xs) h in
    elim (or_cases (same x m) (has xs m) g) [
      | inl s ↦ ap (λ (y : Literal). holds (opposite y)) (sym (same-true x m s)) ∙ p.0
      | inr s ↦ all_false-lit holds xs p.1 m s
    ]

others_false-more : (h k : Literal → Bool) → Includes h k → (l : Literal) (c : Clause) → others_false h l c ≡ true → others_false k l c ≡ true
others_false-more h k i l [] e = refl
others_false-more h k i l (x ∷ xs) e =
    let p = and_parts (same x l || h (opposite x)) (others_false h l xs) e in
    and_from (same x l || k (opposite x)) (others_false k l xs)
    (elim (or_cases (same x l) (h (opposite x)) p.0) [
      | inl s ↦ or_left (same x l) (k (opposite x)) s
      | inr s ↦ or_right (same x l) (k (opposite x)) (i (opposite x) s)
    ])
    (others_false-more h k i l xs p.1)

pub given-unit : (cs : List Clause) (given holds : Literal → Bool) (c : Clause) (l : Literal) → IsGiven cs given holds → Contains cs c →
    look_of holds c ≡ UnitOf l
    → IsGiven cs given (added l holds)
given-unit cs given holds c l g k u = λ s i d m p.
    let q = look-unit holds c l u in
    let sub = g s i d in
    elim (or_cases (same l m) (holds m) p) [
      | inl e ↦ ap s (sym (same-true l m e)) ∙ d c k l q.0 (others_false-more holds s sub l c q.1)
      | inr e ↦ sub m e
    ]

pub given-conflict : (cs : List Clause) (given holds : Literal → Bool) (c : Clause) → IsGiven cs given holds → Contains cs c → look_of holds c ≡ Conflict
    → Conflicts cs given
given-conflict cs given holds c g k u =
    (c, k, λ m p s i d. g s i d (opposite m) (all_false-lit holds c (look-conflict holds c u) m p))

module _ (cs : List Clause) (given : Literal → Bool) (p : Present) (of : (i : ℕ) (c : Clause) → p i ≡ Some c → Contains cs c) where
  by-look : (holds : Literal → Bool) → IsGiven cs given holds → (go : Literal → Option Cause)
      → ((l : Literal) → IsGiven cs given (added l holds) → go l ≡ None → Conflicts cs given)
      → (c : Clause) → Contains cs c → (k : Look) → look_of holds c ≡ k → after_look k go ≡ None → Conflicts cs given
  by-look holds g go next c k Conflict e h = given-conflict cs given holds c g k e
  by-look holds g go next c k (UnitOf l) e h = next l (given-unit cs given holds c l g k e) h
  by-look holds g go next c k Other e h = absurd (cc)

  by-lookup : (holds : Literal → Bool) → IsGiven cs given holds → (go : Literal → Option Cause)
      → ((l : Literal) → IsGiven cs given (added l holds) → go l ≡ None → Conflicts cs given)
      → (o : Option (Clause)) → ((c : Clause) → o ≡ Some c → Contains cs c) → after_lookup o holds go ≡ None → Conflicts cs given
  by-lookup holds g go next None f h = absurd (cc)
  by-lookup holds g go next (Some c) f h = by-look holds g go next c (f c refl) (look_of holds c) refl h

  -- accepted hints show a conflict by unit propagation
  pub by-hints : (hs : List Hint) (holds : Literal → Bool) → IsGiven cs given holds → judge_hints p holds hs ≡ None → Conflicts cs given
  by-hints [] holds g h = absurd (cc)
  by-hints (Negative n ∷ hs) holds g h = absurd (cc)
  by-hints (ById i ∷ hs) holds g h =
      by-lookup holds g (λ l. judge_hints p (added l holds) hs) (λ l d e. by-hints hs (added l holds) d e) (p i) (of i) h

pub accepted_follows : (cs : List Clause) (present : Present) (c : Clause) (hints : List Hint) → ((i : ℕ) (d : Clause) → present i ≡ Some d → Contains cs d) →
    judge_hints present (negations c) hints ≡ None → FollowsByUnits cs c
accepted_follows cs present c hints f h = by-hints cs (negations c) present f hints (negations c) (λ s i d. i) h

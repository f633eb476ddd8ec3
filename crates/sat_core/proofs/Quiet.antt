-- Sets of literals in which propagation has nothing to do: what they say of conflicts, of given literals and of looks.
use Rattle.std.proofs.Common.{◌≡◌, Bool, true, false, ◌||◌, List, [], ◌∷◌, refl, sym, ap, ◌∙◌, inl, inr}
use Rattle.std.proofs.lemmas.Bool.{cases_Bool, and_parts, or_cases, and_from, both_ways}
use Rattle.clause_spec.specs.Clauses.{Literal, Clause, same, opposite, has}
use Rattle.clause_spec.specs.UnitPropagation.{others_false, IsClosed, Includes, Gives, Conflicts}
use Rattle.clause_spec.specs.Refutation.{Other, all_same, left_over, look_left, look_of}
use Rattle.clause_spec.proofs.Looks.{same-true, same-self, or_left, or_right, left-has}
use Rattle.sat_core.specs.ClosedSets.{IsQuiet}

module _ (holds : Literal → Bool) where
  pub all_same-from : (x : Literal) (xs : Clause) → ((m : Literal) → has xs m ≡ true → m ≡ x) → all_same x xs ≡ true
  all_same-from x [] f = refl
  all_same-from x (y ∷ ys) f =
      and_from (same y x) (all_same x ys) (rw (f y (or_left (same y y) (has ys y) (same-self y))) (same-self x))
      (all_same-from x ys (λ m h. f m (or_right (same y m) (has ys m) h)))

  others-left : (x : Literal) (c : Clause) → others_false holds x c ≡ true → (m : Literal) → has (left_over holds c) m ≡ true → m ≡ x
  others-left x [] h m g = absurd (cc)
  others-left x (y ∷ ys) h m g =
      let p = and_parts (same y x || holds (opposite y)) (others_false holds x ys) h in
      elim (cases_Bool (holds (opposite y))) [
        | inl e ↦ others-left x ys p.1 m (rw e at g)
        | inr e ↦ elim (or_cases (same y m) (has (left_over holds ys) m) (rw e at g)) [
          | inl s ↦ elim (or_cases (same y x) (holds (opposite y)) p.0) [
            | inl t ↦ sym (same-true y m s) ∙ same-true y x t
            | inr t ↦ absurd (cc)
          ]
          | inr t ↦ others-left x ys p.1 m t
        ]
      ]

  -- a clause whose literals are all false has nothing left
  pub nothing-left : (c : Clause) → ((m : Literal) → has c m ≡ true → holds (opposite m) ≡ true) → left_over holds c ≡ []
  nothing-left [] f = refl
  nothing-left (y ∷ ys) f = rw (f y (or_left (same y y) (has ys y) (same-self y))) (nothing-left ys (λ m h. f m (or_right (same y m) (has ys m) h)))

  pub other-not_false : (c : Clause) → look_of holds c ≡ Other → ((m : Literal) → has c m ≡ true → holds (opposite m) ≡ true) → ⊥
  other-not_false c h f = let g = rw (nothing-left c f) at h in cc

  only-left : (l : Literal) (ls : Clause) → look_left holds ls ≡ Other → ((m : Literal) → has ls m ≡ true → m ≡ l) → holds l ≡ true
  only-left l [] h f = absurd (cc)
  only-left l (x ∷ xs) h f =
      let q : x ≡ l = f x (or_left (same x x) (has xs x) (same-self x)) in
      let s : all_same x xs ≡ true = all_same-from x xs (λ m g. f m (or_right (same x m) (has xs m) g) ∙ sym q) in
      elim (cases_Bool (holds l)) [
        | inl e ↦ e
        | inr e ↦ absurd (let n : holds x ≡ false = ap holds q ∙ e in let g = rw (s, n) at h in cc)
      ]

  other-closed : (c : Clause) → look_of holds c ≡ Other → (l : Literal) → others_false holds l c ≡ true → holds l ≡ true
  other-closed c h l o = only-left l (left_over holds c) h (others-left l c o)

-- such a set is closed, so it shows that there is no conflict, and which literals are not given
module _ (cs : List Clause) (given holds : Literal → Bool) (q : IsQuiet cs holds) (i : Includes given holds) where
  closed : IsClosed cs holds
  closed = λ c k l h o. other-closed holds c (q c k) l o

  pub quiet-no_conflict : Conflicts cs given → ⊥
  quiet-no_conflict f = other-not_false holds f.0 (q f.0 f.1) (λ m p. f.2 m p holds i closed)

  pub quiet-not_given : (l : Literal) → holds l ≡ false → Gives cs given l → ⊥
  quiet-not_given l e f = both_ways (holds l) e (f holds i closed)

pub conflicts-more : (cs : List Clause) (h k : Literal → Bool) → Includes h k → Conflicts cs h → Conflicts cs k
conflicts-more cs h k i f = (f.0, f.1, λ m p s u c. f.2 m p s (λ l q. u l (i l q)) c)

-- two tests that agree on a clause's literals and on their opposites see the same of it
module _ (h k : Literal → Bool) where
  left_over-agrees : (c : Clause) → ((m : Literal) → has c m ≡ true → (h m ≡ k m) × (h (opposite m) ≡ k (opposite m))) → left_over h c ≡ left_over k c
  left_over-agrees [] f = refl
  left_over-agrees (m ∷ ms) f =
      let q = f m (or_left (same m m) (has ms m) (same-self m)) in
      let r = left_over-agrees ms (λ x p. f x (or_right (same m x) (has ms x) p)) in
      rw (q.1, r) refl

  look_left-agrees : (ls : Clause) → ((m : Literal) → has ls m ≡ true → h m ≡ k m) → look_left h ls ≡ look_left k ls
  look_left-agrees [] f = refl
  look_left-agrees (x ∷ xs) f = rw (f x (or_left (same x x) (has xs x) (same-self x))) refl

  pub look-agrees : (c : Clause) → ((m : Literal) → has c m ≡ true → (h m ≡ k m) × (h (opposite m) ≡ k (opposite m))) → look_of h c ≡ look_of k c
  look-agrees c f =
      look_left-agrees (left_over h c) (λ m p. (f m (left-has h c m p).0).0) ∙ ap (look_left k) (left_over-agrees c f)

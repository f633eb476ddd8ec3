-- A look at a clause that has met one literal that is not false, or none.
use Rattle.std.proofs.Common.{◌≡◌, ℕ, zero, suc, ◌+◌, ◌<◌, Bool, true, false, [], ◌∷◌, Option, Some, None, refl, arith, ap, ◌∙◌, length, get_or, drop, drop-cons, add-one}
use Rattle.std.specs.Prelude.{if◌then◌else◌}
use Rattle.clause_spec.specs.Clauses.{Literal, Clause, same, opposite, has}
use Rattle.clause_spec.specs.Refutation.{Look, Other, left_over, look_left}
use Rattle.clause_spec.proofs.Looks.{same-self, or_left, or_right}

-- a look that has met one literal that is not false, or none, and has `ls` left
abbrev pub resume : (Literal → Bool) → Option Literal → Clause → Look
resume holds None ls = look_left holds ls
resume holds (Some x) ls = look_left holds (x ∷ ls)

abbrev pub IsOpenIn : Clause → Option Literal → Type 0
IsOpenIn c None = Unit {0}
IsOpenIn c (Some x) = has c x ≡ true

pub has-get : (c : Clause) (i : ℕ) (d : Literal) → i < length c → has c (get_or c i d) ≡ true
has-get [] i d h = absurd (omega arith)
has-get (x ∷ xs) zero d h = or_left (same x x) (has xs x) (same-self x)
has-get (x ∷ xs) (suc i) d h = or_right (same x (get_or xs i d)) (has xs (get_or xs i d)) (has-get xs i d (omega arith))

pub has-item : (c : Clause) (i : ℕ) (x : Literal) → i < length c → x ≡ get_or c i x → has c x ≡ true
has-item c i x lt e = ap (has c) e ∙ has-get c i x lt

module _ (h : Literal → Bool) (c : Clause) (i : ℕ) (x : Literal) (lt : i < length c) (is : x ≡ get_or c i x) where
  here : drop i c ≡ x ∷ drop (i + 1) c
  here = rw (add-one, drop-cons c i x, ← is) refl

  left_over-step : left_over h (drop i c) ≡ (if h (opposite x) then left_over h (drop (i + 1) c) else x ∷ left_over h (drop (i + 1) c))
  left_over-step = ap (left_over h) here

  pub resume-false : (o : Option Literal) → h (opposite x) ≡ true → resume h o (left_over h (drop i c)) ≡ resume h o (left_over h (drop (i + 1) c))
  resume-false o e = rw (left_over-step, e) refl

  pub resume-first : h (opposite x) ≡ false → resume h None (left_over h (drop i c)) ≡ resume h (Some x) (left_over h (drop (i + 1) c))
  resume-first e = rw (left_over-step, e) refl

  pub resume-same : (y : Literal) → same x y ≡ true → h (opposite x) ≡ false →
      resume h (Some y) (left_over h (drop i c)) ≡ resume h (Some y) (left_over h (drop (i + 1) c))
  resume-same y q e = rw (left_over-step, e, q) refl

  pub resume-other : (y : Literal) → same x y ≡ false → h (opposite x) ≡ false → resume h (Some y) (left_over h (drop i c)) ≡ Other
  resume-other y q e = rw (left_over-step, e, q) refl

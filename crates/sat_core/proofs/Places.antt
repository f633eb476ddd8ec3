-- Tables of the variables' values.
use Rattle.std.proofs.Common.{◌≡◌, ℕ, zero, suc, ◌+◌, ◌-◌, ◌≤◌, ◌<◌, Bool, true, false, not, List, [], ◌∷◌, Option, Some, None, refl, arith, sym, ap, ◌∙◌, length, get_or, slice_set, map, drop, inl, inr}
use Rattle.std.proofs.lemmas.Bool.{cases_Bool}
use Rattle.std.proofs.lemmas.List.{length-map}
use Rattle.clause_spec.specs.Clauses.{Literal, Clause, opposite, same_sign, clause_value, Satisfies, valuation, AreOnVariables}
use Rattle.clause_spec.proofs.RefutationSound.{clause_false-lit}
use Rattle.sat_core.specs.Tables.{value_is, true_in, open_count, IsFilled, is_set}
use Rattle.sat_core.specs.ClosedSets.{IsQuiet}
use Rattle.sat_core.proofs.Quiet.{other-not_false}

no_value : (o : Option Bool) (p : Bool) → value_is o p ≡ false → value_is o (not p) ≡ false → o ≡ None
no_value None p h g = refl
no_value (Some true) true h g = cc
no_value (Some true) false h g = cc
no_value (Some false) true h g = cc
no_value (Some false) false h g = cc

open_count-set : (t : List (Option Bool)) (v : ℕ) (b : Bool) → v < length t → get_or t v None ≡ None → open_count (slice_set t v (Some b)) + 1 ≡ open_count t
open_count-set [] v b lt h = absurd (omega arith)
open_count-set (None ∷ os) zero b lt h = omega arith
open_count-set (Some x ∷ os) zero b lt h = absurd (cc)
open_count-set (None ∷ os) (suc v) b lt h = omega (arith, open_count-set os v b (omega arith) h)
open_count-set (Some x ∷ os) (suc v) b lt h = open_count-set os v b (omega arith) h

-- an open literal's place is open, and one fewer is so behind it
pub fewer-open : (t : List (Option Bool)) (l : Literal) → l.variable < length t → true_in t (opposite l) ≡ false → true_in t l ≡ false →
    open_count (slice_set t l.variable (Some l.positive)) + 1 ≡ open_count t
fewer-open t l lt n h = open_count-set t l.variable l.positive lt (no_value (get_or t l.variable None) l.positive h n)

pub open-false : (t : List (Option Bool)) (l : Literal) → get_or t l.variable None ≡ None → true_in t l ≡ false
open-false t l h = rw h refl

set-at : (t : List (Option Bool)) (i : ℕ) → get_or (map is_set t) i false ≡ is_set (get_or t i None)
set-at [] i = refl
set-at (x ∷ xs) zero = refl
set-at (x ∷ xs) (suc i) = set-at xs i

sign-of : (o : Option Bool) (p : Bool) → (o ≡ None → ⊥) → same_sign (is_set o) p ≡ false → value_is o (not p) ≡ true
sign-of None p n h = absurd (n refl)
sign-of (Some true) true n h = cc
sign-of (Some true) false n h = refl
sign-of (Some false) true n h = refl
sign-of (Some false) false n h = cc

value-at : (t : List (Option Bool)) (v : ℕ) → 1 ≤ v → valuation (map is_set (drop 1 t)) v ≡ is_set (get_or t v None)
value-at t zero h = absurd (omega arith)
value-at [] (suc v) h = refl
value-at (x ∷ xs) (suc v) h = set-at xs v

pub count-values : (t : List (Option Bool)) (n : ℕ) → length t ≡ n + 1 → length (map is_set (drop 1 t)) ≡ n
count-values [] n h = absurd (omega arith)
count-values (x ∷ xs) n h = length-map xs is_set ∙ (let a : length xs ≡ n = omega arith in a)

-- a table that is filled, and in which propagation has nothing to do, satisfies the clauses
pub table-satisfies : (t : List (Option Bool)) (cs : List Clause) → AreOnVariables (length t - 1) cs → IsFilled t → IsQuiet cs (true_in t) →
    Satisfies (valuation (map is_set (drop 1 t))) cs
table-satisfies t cs over filled quiet c k = elim (cases_Bool (clause_value (valuation (map is_set (drop 1 t))) c)) [
  | inl e ↦ e
  | inr e ↦ absurd (other-not_false (true_in t) c (quiet c k) (λ m h.
      let w = over c k m h in
      let a : 1 ≤ m.variable = w.0 in
      let b : m.variable < length t = (let z = w.1 in omega arith) in
      sign-of (get_or t m.variable None) m.positive (filled m.variable a b)
      (ap (λ x. same_sign x m.positive) (sym (value-at t m.variable a)) ∙ clause_false-lit (valuation (map is_set (drop 1 t))) c e m h)))
]

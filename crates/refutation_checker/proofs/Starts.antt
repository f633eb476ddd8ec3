-- The entries of the clauses that a checker starts from.
use Rattle.std.proofs.Common.{◌≡◌, ℕ, zero, suc, ◌<◌, ◌≤◌, ◌+◌, true, false, List, Option, Some, None, refl, arith, sym, ap, ◌∙◌, eq-eqb, inl, inr, length, take, get_or, length-take, get_or-take, replicate}
use Rattle.std.specs.Prelude.{◌==◌, slice_get, if◌then◌else◌}
use Rattle.std.proofs.lemmas.Bool.{ne_eqb, cases_order}
use Rattle.std.proofs.lemmas.Option.{slice_get_past, slice_get-get_or}
use Rattle.clause_spec.specs.Clauses.{Clause}
use Rattle.clause_spec.specs.Refutation.{at_start}
use Rattle.refutation_checker.specs.Slots.{unset}

get-take : (cs : List Clause) (k i : ℕ) (d : Clause) → i < k → k ≤ length cs → slice_get (take k cs) i ≡ Some (get_or cs i d)
get-take cs k i d h w =
    let l : i < length (take k cs) = simp length-take (omega arith) in
    slice_get-get_or (take k cs) i d l ∙ ap Some (get_or-take k cs i d h)

get-past : (cs : List Clause) (k i : ℕ) → k ≤ i → slice_get (take k cs) i ≡ None
get-past cs k i h = slice_get_past (take k cs) i (simp length-take (omega arith))

-- one more clause
start-more : (cs : List Clause) (k : ℕ) (d : Clause) (i : ℕ) → k < length cs →
    (if i == k + 1 then Some (get_or cs k d) else at_start (take k cs) i) ≡ at_start (take (k + 1) cs) i
start-more cs k d zero lt = rw (ne_eqb 0 (k + 1) (λ e. omega (arith, e))) refl
start-more cs k d (suc i) lt = elim (cases_order i k) [
  | inl e ↦
      let q : (suc i == k + 1) ≡ true = eq-eqb (suc i) (k + 1) (omega (arith, e)) in
      let g : slice_get (take (k + 1) cs) i ≡ Some (get_or cs i d) = get-take cs (k + 1) i d (omega (arith, e)) (omega arith) in
      rw q (sym (g ∙ ap (λ z. Some (get_or cs z d)) e))
  | inr o ↦ elim o [
    | inl h ↦
        let q : (suc i == k + 1) ≡ false = ne_eqb (suc i) (k + 1) (λ z. omega (arith, z, h)) in
        rw q (sym (get-take cs (k + 1) i d (omega arith) (omega arith) ∙ sym (get-take cs k i d h (omega arith))))
    | inr h ↦
        let q : (suc i == k + 1) ≡ false = ne_eqb (suc i) (k + 1) (λ z. omega (arith, z, h)) in
        rw q (sym (get-past cs (k + 1) i (omega arith) ∙ sym (get-past cs k i (omega arith))))
  ]
]

pub more : (cs : List Clause) (k : ℕ) (x : Clause) (o : Option Clause) (i : ℕ) → k < length cs → x ≡ get_or cs k x → o ≡ at_start (take k cs) i →
    (if i == k + 1 then Some x else o) ≡ at_start (take (k + 1) cs) i
more cs k x o i lt is e =
    ap (λ (y : Clause). if i == k + 1 then Some y else o) is ∙ ap
    (λ (p : Option Clause). if i == k + 1 then Some (get_or cs k x) else p) e ∙ start-more cs k x i lt

-- slots that no line has set
pub unset-up : (n k : ℕ) → (get_or (replicate n unset) k unset).line ≤ 0
unset-up zero k = omega arith
unset-up (suc n) zero = omega arith
unset-up (suc n) (suc k) = unset-up n k

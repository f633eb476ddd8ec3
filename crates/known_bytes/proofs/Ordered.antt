-- Numbers in order, each once.
use Rattle.std.proofs.Common.{◌≡◌, inl, inr, sym, subst, arith, ℕ, zero, suc, ◌+◌, ◌<◌, List, length, get_or}
use Rattle.std.specs.Prelude.{◌↔◌, Contains, eqb}
use Rattle.std.specs.Ordering.{nat_cmp}
use Rattle.std.specs.List.{dedup}
use Rattle.std.specs.List.Sorted.{IsStrictlyIncreasing, IsPermutation, IsSorted}
use Rattle.std.proofs.lemmas.List.Sorted.{Contains-permutation, IsPermutation-sym}
use Rattle.std.proofs.lemmas.List.Kept.{Contains-dedup_nat, Contains-from_dedup}
use Rattle.std.proofs.lemmas.Map.Keys.{IsStrictlyIncreasing-dedup}
use Rattle.std.proofs.lemmas.Bool.{cases_lt}

-- each number is below all later ones
pub rises : (xs : List ℕ) → IsStrictlyIncreasing xs → (i j : ℕ) → i < j → j < length xs → get_or xs i 0 < get_or xs j 0
rises xs up i zero l w = absurd (omega arith)
rises xs up i (suc j) l w =
    let e : j + 1 ≡ suc j = omega arith in
    let near : get_or xs j 0 < get_or xs (suc j) 0 = subst (λ (n : ℕ). get_or xs j 0 < get_or xs n 0) e (up j (omega arith)) in
    elim (cases_lt i j) as (λ _. get_or xs i 0 < get_or xs (suc j) 0) [
      | inl less ↦ (let far = rises xs up i j less (omega arith) in omega arith)
      | inr le ↦ (let same : i ≡ j = omega arith in subst (λ (n : ℕ). get_or xs n 0 < get_or xs (suc j) 0) (sym same) near)
    ]

-- what a sort and the removal of equal neighbours leave
pub ordered_same : (xs ys zs : List ℕ) → IsPermutation xs ys → zs ≡ dedup eqb ys → (x : ℕ) → Contains xs x ↔ Contains zs x
ordered_same xs ys zs moved is x = (
  (λ h. subst (λ (l : List ℕ). Contains l x) (sym is) (Contains-dedup_nat ys x (Contains-permutation xs ys x moved h))),
  (λ h. Contains-permutation ys xs x (IsPermutation-sym xs ys moved) (Contains-from_dedup eqb ys x (subst (λ (l : List ℕ). Contains l x) is h))),
)

pub ordered_rise : (ys zs : List ℕ) → IsSorted nat_cmp ys → zs ≡ dedup eqb ys → IsStrictlyIncreasing zs
ordered_rise ys zs up is = subst IsStrictlyIncreasing (sym is) (IsStrictlyIncreasing-dedup ys up)

-- Whether a line is among rising ones.
use Rattle.std.proofs.Common.{◌≡◌, ◌≢◌, ℕ, ◌≤◌, ◌<◌, List, length, get_or, false, sym, ap, ◌∙◌, arith, inl, inr, ne_eqb, eq-eqb}
use Rattle.std.specs.Prelude.{◌==◌, nat_eq}
use Rattle.std.specs.List.{list_any, AllWithin}
use Rattle.std.specs.List.Sorted.{IsStrictlyIncreasing, IsNonDecreasingBy}
use Rattle.std.proofs.lemmas.Bool.{cases_eq, cases_lt}
use Rattle.std.proofs.lemmas.List.{get_or_default}
use Rattle.std.proofs.lemmas.List.Folds.{list_any_at, list_any_none}
use Rattle.known_bytes.proofs.Ordered.{rises}

later : (xs : List ℕ) → IsStrictlyIncreasing xs → (i j d e : ℕ) → i < j → j < length xs → get_or xs i d < get_or xs j e
later xs up i j d e less w =
    let one : get_or xs i d ≡ get_or xs i 0 = get_or_default xs i d 0 (omega arith) in
    let other : get_or xs j e ≡ get_or xs j 0 = get_or_default xs j e 0 w in
    let rise = rises xs up i j less w in
    omega arith

-- rising numbers do not fall
pub not_falling : (xs : List ℕ) → IsStrictlyIncreasing xs → IsNonDecreasingBy (λ x. x) xs
not_falling xs up i j d le w = elim (cases_lt i j) as (λ _. get_or xs i d ≤ get_or xs j d) [
  | inl less ↦ (let rise = later xs up i j d d less w in omega arith)
  | inr same ↦ (let e : i ≡ j = omega arith in let f : get_or xs i d ≡ get_or xs j d = ap (λ (k : ℕ). get_or xs k d) e in omega arith)
]

absent : (xs : List ℕ) (x : ℕ) → ((k d : ℕ) → k < length xs → x ≢ get_or xs k d) → list_any (nat_eq x) xs ≡ false
absent xs x away = list_any_none (nat_eq x) xs (λ k d w. ne_eqb x (get_or xs k d) (away k d w))

module _ (xs : List ℕ) (x i : ℕ) (before : AllWithin (λ y. y < x) xs 0 i) (behind : AllWithin (λ y. x ≤ y) xs i (length xs)) where
  -- all are below it
  pub none_from : i ≡ length xs → false ≡ list_any (nat_eq x) xs
  none_from end = sym (absent xs x (λ k d w is. let low = before k d (omega arith) (omega arith) in absurd (omega arith)))

  -- the first that is not below it tells
  pub line_there : IsStrictlyIncreasing xs → (d : ℕ) → i < length xs → (x == get_or xs i d) ≡ list_any (nat_eq x) xs
  line_there up d w = elim (cases_eq x (get_or xs i d)) as (λ _. (x == get_or xs i d) ≡ list_any (nat_eq x) xs) [
    | inl same ↦ eq-eqb x (get_or xs i d) same ∙ sym (list_any_at (nat_eq x) xs i d w (eq-eqb x (get_or xs i d) same))
    | inr other ↦ ne_eqb x (get_or xs i d) other ∙ sym (absent xs x (λ k e l is. apart other k e l is))
  ]
    where
      apart : x ≢ get_or xs i d → (k e : ℕ) → k < length xs → x ≢ get_or xs k e
      apart other k e l is = elim (cases_lt k i) as (λ _. ⊥) [
        | inl low ↦ (let less = before k e (omega arith) low in absurd (omega arith))
        | inr high ↦ elim (cases_lt i k) as (λ _. ⊥) [
          | inl less ↦ (let rise = later xs up i k d e less l in let here = behind i d (omega arith) w in absurd (omega arith))
          | inr le ↦
              let e_is : i ≡ k = omega arith in
              let one : get_or xs i d ≡ get_or xs i e = get_or_default xs i d e w in
              let f : get_or xs i e ≡ get_or xs k e = ap (λ (n : ℕ). get_or xs n e) e_is in
              other (is ∙ sym f ∙ sym one)
        ]
      ]

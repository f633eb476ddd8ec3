-- Bytes from an address on.
use Rattle.std.proofs.Common.{◌≡◌, inl, inr, ℕ, zero, suc, ◌+◌, ◌^◌, ◌<◌, ◌≤◌, ◌∷◌, map, true, false, refl, sym, ap, ◌∙◌, arith, eq-eqb, ne_eqb}
use Rattle.std.specs.Prelude.{◌||◌, nat_eq, nat_lt}
use Rattle.std.specs.List.{list_any}
use Rattle.std.proofs.lemmas.Bool.{cases_eq}
use Rattle.std.proofs.lemmas.Bool.Decides.{nat_tests}
use Rattle.word_spec.specs.Words.{add, sub}
use Rattle.word_spec.specs.Memory.{span}
use Rattle.word_spec.specs.RowFiles.{from_to}

span_from : (a k n : ℕ) → map (add 32 a) (from_to k n) ≡ span (add 32 a k) n
span_from a k zero = refl
span_from a k (suc n) =
    let next : add 32 a (k + 1) ≡ add 32 (add 32 a k) 1 = omega arith in
    ap (λ l. add 32 a k ∷ l) (span_from a (k + 1) n ∙ ap (λ b. span b n) next)

-- the bytes of so many places after an address
pub bytes_from : (a n : ℕ) → a < 2 ^ 32 → map (add 32 a) (from_to 0 n) ≡ span a n
bytes_from a n low = let same : add 32 a 0 ≡ a = omega arith in span_from a 0 n ∙ ap (λ b. span b n) same

one_more : (d n : ℕ) → nat_lt d n ≡ nat_lt (suc d) (suc n)
one_more d n = grind (arith, nat_tests)

-- whether a byte is among them, by its distance from the first
pub within_span : (x a n : ℕ) → x < 2 ^ 32 → a < 2 ^ 32 → n ≤ 2 ^ 32 → list_any (nat_eq x) (span a n) ≡ nat_lt (sub 32 x a) n
within_span x a zero low first few = let no : nat_lt (sub 32 x a) 0 ≡ false = grind (arith, nat_tests) in sym no
within_span x a (suc n) low first few = elim (cases_eq x a) as (λ _. list_any (nat_eq x) (span a (suc n)) ≡ nat_lt (sub 32 x a) (suc n)) [
  | inl same ↦ (let yes : nat_eq x a ≡ true = eq-eqb x a same in
      let near : sub 32 x a ≡ 0 = omega (arith, same) in
      let more : nat_lt 0 (suc n) ≡ true = grind (arith, nat_tests) in
      ap (λ b. b || list_any (nat_eq x) (span (add 32 a 1) n)) yes ∙ sym (ap (λ d. nat_lt d (suc n)) near ∙ more))
  | inr other ↦ (let no : nat_eq x a ≡ false = ne_eqb x a other in
      let far : sub 32 x a ≡ suc (sub 32 x (add 32 a 1)) = omega (arith, other) in
      ap (λ b. b || list_any (nat_eq x) (span (add 32 a 1) n)) no
      ∙ (within_span x (add 32 a 1) n low (omega arith) (omega arith) ∙ one_more (sub 32 x (add 32 a 1)) n
      ∙ sym (ap (λ d. nat_lt d (suc n)) far)))
]

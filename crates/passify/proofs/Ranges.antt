-- Numbers from one on, and bytes from an address on.
use Rattle.std.proofs.Common.{◌≡◌, inl, inr, ℕ, zero, suc, ◌+◌, ◌^◌, ◌<◌, ◌≤◌, [], ◌∷◌, ◌++◌, map, Bool, true, false, refl, sym, ap, ◌∙◌, arith, eq-eqb, ne_eqb}
use Rattle.std.specs.Prelude.{◌&&◌, ◌||◌, filter, nat_eq, nat_lt}
use Rattle.std.specs.List.{list_any}
use Rattle.std.proofs.lemmas.Bool.{cases_eq}
use Rattle.std.proofs.lemmas.Bool.Decides.{nat_tests}
use Rattle.std.proofs.lemmas.List.Folds.{list_any-append}
use Rattle.std.proofs.lemmas.Map.Views.{any-filter_same}
use Rattle.word_spec.specs.Words.{add, sub}
use Rattle.word_spec.specs.Memory.{span}
use Rattle.word_spec.specs.RowFiles.{from_to}
use Rattle.bilv_spec.proofs.PointSteps.{same_number}
use Rattle.frame_spec.specs.FrameWalk.{flags_below}

span_from : (a k n : ℕ) → map (add 32 a) (from_to k n) ≡ span (add 32 a k) n
span_from a k zero = refl
span_from a k (suc n) =
    let next : add 32 a (k + 1) ≡ add 32 (add 32 a k) 1 = omega arith in
    ap (λ l. add 32 a k ∷ l) (span_from a (k + 1) n ∙ ap (λ b. span b n) next)

-- the bytes of so many places after an address
pub bytes_from : (a n : ℕ) → a < 2 ^ 32 → map (add 32 a) (from_to 0 n) ≡ span a n
bytes_from a n low = let same : add 32 a 0 ≡ a = omega arith in span_from a 0 n ∙ ap (λ b. span b n) same

one_more : (d n : ℕ) → nat_lt d n ≡ nat_lt (suc d) (suc n)
one_more d n = grind (arith, nat_tests)

-- whether a byte is among them, by its distance from the first
pub within_span : (x a n : ℕ) → x < 2 ^ 32 → a < 2 ^ 32 → n ≤ 2 ^ 32 → list_any (nat_eq x) (span a n) ≡ nat_lt (sub 32 x a) n
within_span x a zero low first few = let no : nat_lt (sub 32 x a) 0 ≡ false = grind (arith, nat_tests) in sym no
within_span x a (suc n) low first few = elim (cases_eq x a) as (λ _. list_any (nat_eq x) (span a (suc n)) ≡ nat_lt (sub 32 x a) (suc n)) [
  | inl same ↦ (let yes : nat_eq x a ≡ true = eq-eqb x a same in
      let near : sub 32 x a ≡ 0 = omega (arith, same) in
      let more : nat_lt 0 (suc n) ≡ true = grind (arith, nat_tests) in
      ap (λ b. b || list_any (nat_eq x) (span (add 32 a 1) n)) yes ∙ sym (ap (λ d. nat_lt d (suc n)) near ∙ more))
  | inr other ↦ (let no : nat_eq x a ≡ false = ne_eqb x a other in
      let far : sub 32 x a ≡ suc (sub 32 x (add 32 a 1)) = omega (arith, other) in
      ap (λ b. b || list_any (nat_eq x) (span (add 32 a 1) n)) no
      ∙ (within_span x (add 32 a 1) n low (omega arith) (omega arith) ∙ one_more (sub 32 x (add 32 a 1)) n
      ∙ sym (ap (λ d. nat_lt d (suc n)) far)))
]

-- an address of 64 bits is none of them
pub beyond_span : (x a n : ℕ) → 2 ^ 32 ≤ x → a < 2 ^ 32 → list_any (nat_eq x) (span a n) ≡ false
beyond_span x a zero far low = refl
beyond_span x a (suc n) far low =
    let no : nat_eq x a ≡ false = ne_eqb x a (λ same. absurd (omega (arith, same))) in
    ap (λ b. b || list_any (nat_eq x) (span (add 32 a 1) n)) no ∙ beyond_span x (add 32 a 1) n far (omega arith)

pub in_range : (n r k : ℕ) → k ≤ r → r < k + n → list_any (nat_eq r) (from_to k n) ≡ true
in_range zero r k from upto = absurd (omega arith)
in_range (suc n) r k from upto = elim (cases_eq r k) as (λ _. list_any (nat_eq r) (from_to k (suc n)) ≡ true) [
  | inl same ↦ ap (λ b. b || list_any (nat_eq r) (from_to (k + 1) n)) (eq-eqb r k same)
  | inr other ↦ ap (λ b. b || list_any (nat_eq r) (from_to (k + 1) n)) (ne_eqb r k other)
      ∙ in_range n r (k + 1) (omega (arith, other)) (omega arith)
]

and_true : (b : Bool) → (b && true) ≡ b
and_true true = refl
and_true false = refl

-- a number of a set that is a list of those below a bound
pub listed : (P : ℕ → Bool) (r n : ℕ) → r < n → list_any (nat_eq r) (filter P (from_to 0 n)) ≡ P r
listed P r n below =
    any-filter_same (nat_eq r) P (P r) (λ k same. ap P (sym (same_number r k same))) (from_to 0 n)
    ∙ ap (λ b. P r && b) (in_range n r 0 (omega arith) (omega arith)) ∙ and_true (P r)

-- one more number of a range
pub range_push : (f k : ℕ) → from_to f (suc k) ≡ from_to f k ++ (f + k) ∷ []
range_push f zero = ap (λ z. z ∷ []) (let e : f ≡ f + 0 = omega arith in e)
range_push f (suc k) = ap (λ z. f ∷ z) (range_push (f + 1) k ∙ ap (λ z. from_to (f + 1) k ++ z ∷ []) (let e : f + 1 + k ≡ f + suc k = omega arith in e))

or_nothing : (b c : Bool) → (b || (c || false)) ≡ (b || c)
or_nothing true c = refl
or_nothing false true = refl
or_nothing false false = refl

-- and whether one of them passes a test
pub any_push : (f : ℕ → Bool) (a k : ℕ) → list_any f (from_to a (k + 1)) ≡ (list_any f (from_to a k) || f (a + k))
any_push f a k =
    ap (λ z. list_any f (from_to a z)) (let e : k + 1 ≡ suc k = omega arith in e) ∙ ap (list_any f) (range_push a k)
    ∙ list_any-append f (from_to a k) ((a + k) ∷ []) ∙ or_nothing (list_any f (from_to a k)) (f (a + k))

-- tests that are the same one after the other
pub any_ranges : (f g : ℕ → Bool) (a b n : ℕ) → ((i : ℕ) → i < n → f (a + i) ≡ g (b + i)) → list_any f (from_to a n) ≡ list_any g (from_to b n)
any_ranges f g a b zero h = refl
any_ranges f g a b (suc n) h =
    let first : f a ≡ g b = ap f (let e : a ≡ a + 0 = omega arith in e) ∙ h 0 (omega arith) ∙ ap g (let e : b + 0 ≡ b = omega arith in e) in
    ap (λ z. z || list_any f (from_to (a + 1) n)) first
    ∙ ap (λ z. g b || z) (any_ranges f g (a + 1) (b + 1) n (λ i l.
    ap f (let e : a + 1 + i ≡ a + suc i = omega arith in e) ∙ h (suc i) (omega arith) ∙ ap g (let e : b + suc i ≡ b + 1 + i = omega arith in e)))

or_back : (b c : Bool) → (b || c) ≡ (c || b)
or_back true true = refl
or_back true false = refl
or_back false true = refl
or_back false false = refl

-- so the numbers below one
pub any_below : (f : ℕ → Bool) (n : ℕ) → list_any f (flags_below n) ≡ list_any f (from_to 0 n)
any_below f zero = refl
any_below f (suc n) =
    ap (λ z. f n || z) (any_below f n) ∙ or_back (f n) (list_any f (from_to 0 n))
    ∙ ap (λ z. list_any f (from_to 0 n) || f z) (let e : n ≡ 0 + n = omega arith in e) ∙ sym (any_push f 0 n)
    ∙ ap (λ z. list_any f (from_to 0 z)) (let e : n + 1 ≡ suc n = omega arith in e)

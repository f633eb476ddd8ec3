-- What a load reads and a store writes, over two memories.
use Rattle.std.proofs.Common.{◌≡◌, ℕ, zero, suc, ◌+◌, ◌*◌, ◌^◌, ◌<◌, ◌≤◌, refl, ap, subst, ◌∙◌, inl, inr, ◌⊎◌, true, false, Bool, arith, Option, Some, None, List, [], ◌∷◌}
use Rattle.std.specs.Prelude.{if◌then◌else◌, nat_lt, Contains}
use Rattle.std.proofs.lemmas.Bool.Decides.{nat_tests}
use Rattle.word_spec.specs.Words.{add, sub}
use Rattle.word_spec.specs.Memory.{Endian, Little, Big, Memory, little, big, number, load, store, byte_of, span}
use Rattle.machine_spec.specs.Machine.{addresses}
use Rattle.machine_spec.specs.MachineLaws.{BeginsInMemory}

contains_next : (a : ℕ) (rest : List ℕ) (x : ℕ) → Contains rest x → Contains (a ∷ rest) x
contains_next a rest x (k, l, e) = (suc k, omega arith, e)

add_next : (a i : ℕ) → add 32 (add 32 a 1) i ≡ add 32 a (suc i)
add_next a i = omega arith

-- the addresses of a span, whose first is a word
pub in_span : (n a i : ℕ) → a < 2 ^ 32 → i < n → Contains (span a n) (add 32 a i)
in_span zero a i w l = absurd (omega arith)
in_span (suc n) a zero w l = (0, omega arith, omega arith)
in_span (suc n) a (suc i) w l = contains_next a (span (add 32 a 1) n) (add 32 a (suc i))
    (subst (λ (x : ℕ). Contains (span (add 32 a 1) n) x) (add_next a i) (in_span n (add 32 a 1) i (omega arith) (omega arith)))

-- and no others
of_span : (n a x : ℕ) → a < 2 ^ 32 → Contains (span a n) x → (i : ℕ) × (i < n) × (x ≡ add 32 a i)
of_span zero a x w (k, l, e) = absurd (omega arith)
of_span (suc n) a x w (zero, l, e) = (0, omega arith, (let same : a ≡ x = e in omega arith))
of_span (suc n) a x w (suc k, l, e) =
    let (i, few, is) = of_span n (add 32 a 1) x (omega arith) (k, omega arith, e) in (suc i, omega arith, is ∙ add_next a i)

-- bytes that begin at an address of 32 bits stand at such addresses
pub loaded_small : (bytes : Option (ℕ × ℕ)) (x : ℕ) → BeginsInMemory bytes → Contains (addresses bytes) x → x < 2 ^ 32
loaded_small None x begins (k, l, e) = absurd (omega arith)
loaded_small (Some bytes) x begins inside = let (i, l, e) = of_span bytes.1 bytes.0 x begins inside in omega arith

-- a byte of a span, by its distance from the first
pub within : (n a x : ℕ) → a < 2 ^ 32 → n ≤ 2 ^ 32 → Contains (span a n) x → sub 32 x a < n
within n a x w few inside = let (i, l, e) = of_span n a x w inside in omega arith

-- numbers of bytes that are the same
little_same : (n : ℕ) (f g : ℕ → ℕ) → ((i : ℕ) → i < n → f i ≡ g i) → little n f ≡ little n g
little_same zero f g h = refl
little_same (suc n) f g h =
    ap (λ x. x + f n * 256 ^ n) (little_same n f g (λ i l. h i (omega arith))) ∙ ap (λ y. little n g + y * 256 ^ n) (h n (omega arith))

big_same : (n : ℕ) (f g : ℕ → ℕ) → ((i : ℕ) → i < n → f i ≡ g i) → big n f ≡ big n g
big_same zero f g h = refl
big_same (suc n) f g h = ap (λ x. x * 256 + f n) (big_same n f g (λ i l. h i (omega arith))) ∙ ap (λ y. big n g * 256 + y) (h n (omega arith))

pub number_same : (e : Endian) (n : ℕ) (f g : ℕ → ℕ) → ((i : ℕ) → i < n → f i ≡ g i) → number e n f ≡ number e n g
number_same Little n f g h = little_same n f g h
number_same Big n f g h = big_same n f g h

-- a load reads its span alone
pub load_same : (e : Endian) (n a : ℕ) (m k : Memory) → a < 2 ^ 32 → ((x : ℕ) → Contains (span a n) x → m x ≡ k x) → load e n m a ≡ load e n k a
load_same e n a m k w h = number_same e n (λ i. m (add 32 a i)) (λ i. k (add 32 a i)) (λ i l. h (add 32 a i) (in_span n a i w l))

-- no byte is stored
pub kept_same : (x : ℕ) (m k : Memory) → (m x ≡ k x) ⊎ Contains {X = ℕ} [] x → m x ≡ k x
kept_same x m k (inl e) = e
kept_same x m k (inr (i, l, e)) = absurd (omega arith)

-- a store leaves the same byte where its bytes are, and where the memories had the same
pub store_near : (e : Endian) (n a v x : ℕ) (m k : Memory) → (m x ≡ k x) ⊎ (sub 32 x a < n) → store e n m a v x ≡ store e n k a v x
store_near e n a v x m k h = by_test (nat_lt (sub 32 x a) n) refl h
  where
    by_test : (b : Bool) → nat_lt (sub 32 x a) n ≡ b → (m x ≡ k x) ⊎ (sub 32 x a < n) →
        (if b then byte_of e n v (sub 32 x a) else m x) ≡ (if b then byte_of e n v (sub 32 x a) else k x)
    by_test true t h = refl
    by_test false t (inl same) = same
    by_test false t (inr l) = absurd (grind (arith, nat_tests))

pub store_same : (e : Endian) (n a v x : ℕ) (m k : Memory) → a < 2 ^ 32 → n ≤ 2 ^ 32 → (m x ≡ k x) ⊎ Contains (span a n) x →
    store e n m a v x ≡ store e n k a v x
store_same e n a v x m k w few (inl same) = store_near e n a v x m k (inl same)
store_same e n a v x m k w few (inr inside) = store_near e n a v x m k (inr (within n a x w few inside))

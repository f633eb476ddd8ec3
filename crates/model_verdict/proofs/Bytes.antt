-- Bytes of a list over a fill.
use Rattle.std.proofs.Common.{◌≡◌, inl, inr, ℕ, zero, suc, ◌%◌, ◌^◌, ◌<◌, Bool, true, false, List, [], ◌∷◌, length, get_or, refl, ap, sym, ◌∙◌, arith}
use Rattle.std.specs.Prelude.{◌==◌, All, bit_xor, if◌then◌else◌}
use Rattle.std.specs.Int.Bits.{xor_assoc, xor_self, xor_zero_l, xor_zero_r}
use Rattle.std.specs.List.Sorted.{IsNonDecreasingBy}
use Rattle.std.proofs.lemmas.Bool.{cases_lt}
use Rattle.std.proofs.lemmas.Bool.Decides.{nat_tests}
use Rattle.std.proofs.lemmas.Nat.{xor_comm, xor_of_8}
use Rattle.machine_spec.specs.StateText.{AreRising}
use Rattle.word_spec.specs.Memory.{byte_in}
use Rattle.table_run.specs.Traces.{byte_over}
use Rattle.model_verdict.specs.Models.{turned}

-- the entries of a list of bytes are bytes at addresses
abbrev pub AreBytes : List (ℕ × ℕ) → Type 0
AreBytes xs = All (λ e. (e.0 < 2 ^ 32) × (e.1 < 256)) xs

-- they are below 256
pub over_small : (fill : ℕ) (xs : List (ℕ × ℕ)) (a : ℕ) → fill < 256 → AreBytes xs → byte_over fill xs a < 256
over_small fill [] a f h = f
over_small fill (e ∷ rest) a f h = by (a == e.0) (h 0 e (omega arith)).1 (over_small fill rest a f (λ n d l. h (suc n) d (omega (arith, l))))
  where
    by : (b : Bool) → e.1 < 256 → byte_over fill rest a < 256 → (if b then e.1 else byte_over fill rest a) < 256
    by true x y = x
    by false x y = y

-- a byte whose bits were turned twice
small_mod : (b : ℕ) → b < 256 → b % 256 ≡ b
small_mod b l = omega arith

turned_back : (f b : ℕ) → f < 256 → b < 256 → bit_xor (f % 256) (bit_xor b f % 256) ≡ b
turned_back f b l m =
    ap (λ z. bit_xor z (bit_xor b f % 256)) (small_mod f l) ∙ ap (bit_xor f) (small_mod (bit_xor b f) (xor_of_8 b f m l)) ∙ ap (bit_xor f) (xor_comm b f)
    ∙ sym (xor_assoc f f b) ∙ ap (λ z. bit_xor z b) (xor_self f) ∙ xor_zero_l b

pub turned_byte : (fill : ℕ) (xs : List (ℕ × ℕ)) (a : ℕ) → fill < 256 → AreBytes xs →
    bit_xor (fill % 256) (byte_in (turned fill xs) a % 256) ≡ byte_over fill xs a
turned_byte fill [] a f h = xor_zero_r (fill % 256) ∙ small_mod fill f
turned_byte fill (e ∷ rest) a f h =
    by (a == e.0) (turned_back fill e.1 f (h 0 e (omega arith)).1) (turned_byte fill rest a f (λ n d l. h (suc n) d (omega (arith, l))))
  where
    by : (b : Bool) → bit_xor (fill % 256) (bit_xor e.1 fill % 256) ≡ e.1 → bit_xor (fill % 256) (byte_in (turned fill rest) a % 256) ≡ byte_over fill rest a →
        bit_xor (fill % 256) ((if b then bit_xor e.1 fill else byte_in (turned fill rest) a) % 256) ≡ (if b then e.1 else byte_over fill rest a)
    by true x y = x
    by false x y = y

-- the byte at an address that is listed, where they rise
pub over_at : (fill : ℕ) (xs : List (ℕ × ℕ)) (i : ℕ) (d : ℕ × ℕ) → AreRising xs → i < length xs → byte_over fill xs (get_or xs i d).0 ≡ (get_or xs i d).1
over_at fill [] i d rise l = absurd (omega arith)
over_at fill (e ∷ rest) zero d rise l = ap (λ z. if z then e.1 else byte_over fill rest e.0) (let t : (e.0 == e.0) ≡ true = grind (arith, nat_tests) in t)
over_at fill (e ∷ rest) (suc i) d rise l =
    let below : e.0 < (get_or rest i d).0 = rise 0 (suc i) d (omega arith) l in
    let other : ((get_or rest i d).0 == e.0) ≡ false = grind (arith, nat_tests) in
    ap (λ z. if z then e.1 else byte_over fill rest (get_or rest i d).0) other
    ∙ over_at fill rest i d (λ j k n m o. rise (suc j) (suc k) n (omega (arith, m)) (omega (arith, o))) (omega (arith, l))

-- and at one that is not
pub over_free : (fill : ℕ) (xs : List (ℕ × ℕ)) (a : ℕ) → ((i : ℕ) (d : ℕ × ℕ) → i < length xs → (get_or xs i d).0 ≡ a → ⊥) → byte_over fill xs a ≡ fill
over_free fill [] a h = refl
over_free fill (e ∷ rest) a h =
    let apart : (e.0 ≡ a → ⊥) = h 0 e (omega arith) in
    let other : (a == e.0) ≡ false = grind (arith, nat_tests) in
    ap (λ z. if z then e.1 else byte_over fill rest a) other ∙ over_free fill rest a (λ i d l. h (suc i) d (omega (arith, l)))

-- rising addresses do not fall
pub never_falls : (xs : List (ℕ × ℕ)) → AreRising xs → IsNonDecreasingBy (λ (x : ℕ × ℕ). x.0) xs
never_falls xs rise i j d l m = elim (cases_lt i j) [
  | inl a ↦ (let h = rise i j d a m in omega (arith, h))
  | inr a ↦ (let e : i ≡ j = omega (arith, l, a) in let s = ap (λ n. (get_or xs n d).0) e in omega (arith, s))
]

-- what is not 0 stands in the list
pub found_in : (xs : List (ℕ × ℕ)) (a : ℕ) → (byte_in xs a ≡ 0 → ⊥) → (i : ℕ) × (i < length xs) × (get_or xs i (a, byte_in xs a) ≡ (a, byte_in xs a))
found_in [] a h = absurd (h refl)
found_in (e ∷ rest) a h = by (a == e.0) refl h (λ g. found_in rest a g)
  where
    by : (b : Bool) → (a == e.0) ≡ b → ((if b then e.1 else byte_in rest a) ≡ 0 → ⊥) →
        ((byte_in rest a ≡ 0 → ⊥) → (i : ℕ) × (i < length rest) × (get_or rest i (a, byte_in rest a) ≡ (a, byte_in rest a))) →
        (i : ℕ) × (i < length (e ∷ rest)) × (get_or (e ∷ rest) i (a, if b then e.1 else byte_in rest a) ≡ (a, if b then e.1 else byte_in rest a))
    by true t g later = (0, omega arith, ap (λ z. (z, e.1)) (let s : e.0 ≡ a = grind (arith, nat_tests) in s))
    by false t g later = let q = later g in (suc q.0, omega (arith, q.1), q.2)

-- what stands in a rising list is found
pub rising_at : (xs : List (ℕ × ℕ)) (i : ℕ) (d : ℕ × ℕ) → AreRising xs → i < length xs → byte_in xs (get_or xs i d).0 ≡ (get_or xs i d).1
rising_at [] i d rise l = absurd (omega arith)
rising_at (e ∷ rest) zero d rise l = ap (λ z. if z then e.1 else byte_in rest e.0) (let t : (e.0 == e.0) ≡ true = grind (arith, nat_tests) in t)
rising_at (e ∷ rest) (suc i) d rise l =
    let below : e.0 < (get_or rest i d).0 = rise 0 (suc i) d (omega arith) l in
    let other : ((get_or rest i d).0 == e.0) ≡ false = grind (arith, nat_tests) in
    ap (λ z. if z then e.1 else byte_in rest (get_or rest i d).0) other
    ∙ rising_at rest i d (λ j k n m o. rise (suc j) (suc k) n (omega (arith, m)) (omega (arith, o))) (omega (arith, l))

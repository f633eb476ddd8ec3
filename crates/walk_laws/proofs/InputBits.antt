-- The bits of numbers, and the numbers that a valuation gives.
use Rattle.std.proofs.Common.{◌≡◌, refl, ap, sym, ◌∙◌, arith, ℕ, zero, suc, ◌+◌, ◌*◌, ◌/◌, ◌%◌, ◌^◌, ◌<◌, Bool, true, false}
use Rattle.std.specs.Prelude.{◌==◌}
use Rattle.std.proofs.Math.Nat.{div-div-eq-div-mul, pow-succ'}
use Rattle.word_spec.specs.Words.{bit, bit_at}
use Rattle.term_spec.specs.ClauseForm.{bits_from}

-- a higher bit is one of the half
higher : (i a : ℕ) → bit_at (suc i) a ≡ bit_at i (a / 2)
higher i a = ap (λ z. a / z % 2) (pow-succ' 2 i) ∙ ap (λ z. z % 2) (sym (div-div-eq-div-mul a 2 (2 ^ i)))

-- the lowest is the rest
lowest : (a : ℕ) → bit_at 0 a ≡ a % 2
lowest a = omega arith

one_test : (a b : ℕ) → a < 2 → b < 2 → (a == 1) ≡ (b == 1) → a ≡ b
one_test zero zero p q e = refl
one_test zero (suc zero) p q e = absurd (let c : false ≡ true = e in cc)
one_test (suc zero) zero p q e = absurd (let c : true ≡ false = e in cc)
one_test (suc zero) (suc zero) p q e = refl
one_test (suc (suc a)) b p q e = absurd (omega arith)
one_test a (suc (suc b)) p q e = absurd (omega arith)

-- two numbers with the same bits are one
pub same_bits : (w a b : ℕ) → a < 2 ^ w → b < 2 ^ w → ((i : ℕ) → i < w → (bit_at i a == 1) ≡ (bit_at i b == 1)) → a ≡ b
same_bits zero a b p q f = omega arith
same_bits (suc w) a b p q f =
    let d = pow-succ' 2 w in
    let low : a % 2 ≡ b % 2 = one_test (a % 2) (b % 2) (omega arith) (omega arith) (ap (λ z. z == 1) (sym (lowest a)) ∙ f 0 (omega arith) ∙ ap
    (λ z. z == 1) (lowest b)) in
    let high : a / 2 ≡ b / 2 = same_bits w (a / 2) (b / 2) (omega arith) (omega arith)
    (λ i l. ap (λ z. z == 1) (sym (higher i a)) ∙ f (suc i) (omega arith) ∙ ap (λ z. z == 1) (higher i b)) in
    omega arith

-- the number of a valuation, by its lowest bit and the others
from_low : (v : ℕ → Bool) (i n : ℕ) → bits_from v i (suc n) ≡ bit (v (i + 1)) + 2 * bits_from v (i + 1) n
from_low v i zero = let e : i + 0 + 1 ≡ i + 1 = omega arith in ap
    (λ z. 0 + bit (v z) * 1) e ∙ (let f : 0 + bit (v (i + 1)) * 1 ≡ bit (v (i + 1)) + 2 * 0 = omega arith in f)
from_low v i (suc n) =
    let h = from_low v i n in
    let e : i + suc n + 1 ≡ i + 1 + n + 1 = omega arith in
    ap (λ z. bits_from v i (suc n) + bit (v z) * 2 ^ suc n) e
    ∙ ap (λ z. bits_from v i (suc n) + bit (v (i + 1 + n + 1)) * z) (pow-succ' 2 n)
    ∙ ap (λ z. z + bit (v (i + 1 + n + 1)) * (2 * 2 ^ n)) h
    ∙ sum (bit (v (i + 1))) (bits_from v (i + 1) n) (bit (v (i + 1 + n + 1))) (2 ^ n)
  where
    sum : (a b c d : ℕ) → a + 2 * b + c * (2 * d) ≡ a + 2 * (b + c * d)
    sum a b c d = grind arith

low_of : (b : Bool) (a : ℕ) → ((bit b + 2 * a) % 2 == 1) ≡ b
low_of true a = let e : (1 + 2 * a) % 2 ≡ 1 = omega arith in ap (λ z. z == 1) e
low_of false a = let e : (0 + 2 * a) % 2 ≡ 0 = omega arith in ap (λ z. z == 1) e

half_of : (b : Bool) (a : ℕ) → (bit b + 2 * a) / 2 ≡ a
half_of true a = omega arith
half_of false a = omega arith

-- its bits are the valuation's
pub bit_is : (v : ℕ → Bool) (i n b : ℕ) → b < n → (bit_at b (bits_from v i n) == 1) ≡ v (i + b + 1)
bit_is v i zero b l = absurd (omega arith)
bit_is v i (suc n) zero l =
    ap (λ z. bit_at 0 z == 1) (from_low v i n) ∙ ap (λ z. z == 1) (lowest (bit (v (i + 1)) + 2 * bits_from v (i + 1) n)) ∙ low_of (v (i + 1))
    (bits_from v (i + 1) n)
    ∙ ap v (let e : i + 1 ≡ i + 0 + 1 = omega arith in e)
bit_is v i (suc n) (suc b) l =
    ap (λ z. bit_at (suc b) z == 1) (from_low v i n) ∙ ap (λ z. z == 1) (higher b (bit (v (i + 1)) + 2 * bits_from v (i + 1) n))
    ∙ ap (λ z. bit_at b z == 1) (half_of (v (i + 1)) (bits_from v (i + 1) n)) ∙ bit_is v (i + 1) n b (omega arith)
    ∙ ap v (let e : i + 1 + b + 1 ≡ i + suc b + 1 = omega arith in e)

-- so is the one bit of a flag
pub flag_is : (v : ℕ → Bool) (i : ℕ) → (bits_from v i 1 == 1) ≡ v (i + 1)
flag_is v i = ap (λ z. 0 + bit (v z) * 1 == 1) (let e : i + 0 + 1 ≡ i + 1 = omega arith in e) ∙ by (v (i + 1))
  where
    by : (b : Bool) → (0 + bit b * 1 == 1) ≡ b
    by true = refl
    by false = refl

pub one_bit_same : (a b : ℕ) → a < 2 → b < 2 → (a == 1) ≡ (b == 1) → a ≡ b
one_bit_same = one_test

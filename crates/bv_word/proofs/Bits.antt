-- Facts on bits that the std lemmas give in another form.
use Rattle.std.proofs.Common.{◌≡◌, ◌≢◌, false, ℕ, ◌+◌, ◌-◌, ◌*◌, ◌/◌, ◌%◌, ◌^◌, ◌≤◌, ◌<◌, ◌∙◌, ap, refl, subst, arith, bit_and, bit_or, leb, eqb, min}
use mathlib.Core.Bool.{not}
use Rattle.std.proofs.lemmas.Nat.{and_mask, shl_whole, or_shifted, pow-add, mul-add-lt, pow_pos, div_below, le-div}
use Rattle.std.specs.Prelude.{◌==◌}
use Rattle.std.proofs.lemmas.Bool.{ne_eqb}
use Rattle.word_spec.specs.Words.{word, magnitude, udiv, sdiv, with_sign, differ, is_negative}
use Rattle.std.specs.Int.Bits.{and_lt}
use Rattle.std.proofs.lemmas.Nat.Bits.{ones_shr}
use Rattle.std.proofs.Math.Pow.{mod-mod-pow, pow-lt}
use Rattle.std.proofs.Math.Nat.{mul-mod_left, div-eq_of_lt, add-mod-mod, mul_comm, div-le_self, pow-le-pow_right, mod-eq_of_lt}
use Rattle.std.proofs.lemmas.Bool.Decides.{nat_tests}

-- 2 ^ 64 - 1, shifted
pub ones_at : (w : ℕ) → w ≤ 64 → (2 ^ 64 - 1) / 2 ^ (64 - w) ≡ 2 ^ w - 1
ones_at w h = ones_shr 64 (64 - w) (omega arith) ∙ ap (λ k. 2 ^ k - 1) (omega arith)

pub cut : (a w m : ℕ) → m ≡ 2 ^ w - 1 → bit_and a m ≡ a % 2 ^ w
cut a w m e = ap (λ x. bit_and a x) e ∙ and_mask a w

-- a mask of 64 bits before a shorter one
pub cut_twice : (x w : ℕ) → w ≤ 64 → x % 2 ^ 64 % 2 ^ w ≡ x % 2 ^ w
cut_twice x w h =
    let e : 64 ≡ (64 - w) + w = omega arith in
    ap (λ k. x % 2 ^ k % 2 ^ w) e ∙ mod-mod-pow x (64 - w) w

pub add_negated : (a b m : ℕ) → (a + (m - b) % m) % m ≡ (a + (m - b)) % m
add_negated a b m = add-mod-mod a (m - b) m

pub top_bit : (x k : ℕ) → not (eqb (x / 2 ^ k) 0) ≡ leb (2 ^ k) x
top_bit x k =
    let below : x < 2 ^ k → x / 2 ^ k < 1 = λ h. div_below x (2 ^ k) 1 (pow_pos k) (omega arith) in
    let above : 2 ^ k ≤ x → 1 ≤ x / 2 ^ k = λ h. le-div 1 x (2 ^ k) (pow_pos k) (omega arith) in
    grind (arith, nat_tests)

pub joined : (a b m k : ℕ) → a < 2 ^ m → b < 2 ^ k → m + k ≤ 64 → bit_or (a * 2 ^ k % 2 ^ 64) b ≡ a * 2 ^ k + b
joined a b m k p q h = rw (shl_whole a m k 64 p h) (or_shifted a k b q)

pub joined_below : (a b m k : ℕ) → a < 2 ^ m → b < 2 ^ k → a * 2 ^ k + b < 2 ^ (m + k)
joined_below a b m k p q = rw (pow-add, mul_comm (2 ^ m) (2 ^ k)) (mul-add-lt a (2 ^ k) b (2 ^ m) p q)

pub quotient_le : (n k : ℕ) → n / k ≤ n
quotient_le n k = div-le_self n k

-- a negative word is not 0
pub negated : (a n : ℕ) → 2 ^ (n - 1) ≤ a → a < 2 ^ n → (2 ^ n - a) % 2 ^ n ≡ 2 ^ n - a
negated a n p q = let z = pow_pos (n - 1) in mod-eq_of_lt (omega arith)

pub widened : (n m : ℕ) → n ≤ m → 2 ^ n ≤ 2 ^ m
widened n m h = pow-le-pow_right (omega arith) h

pub small : (a n : ℕ) → a < 2 ^ n → a % 2 ^ n ≡ a
small a n h = mod-eq_of_lt h

pub and_below : (k a b : ℕ) → a < 2 ^ k → b < 2 ^ k → bit_and a b < 2 ^ k
and_below k a b p q = and_lt k a b p q

-- a shift by the width or more leaves nothing
pub all_out_left : (a b n : ℕ) → n ≤ b → a * 2 ^ min b n % 2 ^ n ≡ 0
all_out_left a b n h = let e : min b n ≡ n = omega arith in rw e (mul-mod_left a (2 ^ n))

pub all_out_right : (a b n : ℕ) → n ≤ b → a < 2 ^ n → a / 2 ^ min b n ≡ 0
all_out_right a b n h less = let e : min b n ≡ n = omega arith in rw e (div-eq_of_lt less)

pub part_of_shift : (a b n : ℕ) → b < n → a / 2 ^ min b n ≡ a / 2 ^ b
part_of_shift a b n h = let e : min b n ≡ b = omega arith in rw e refl

-- the upper m of n bits
pub upper_below : (a n m : ℕ) → m ≤ n → a < 2 ^ n → a / 2 ^ (n - m) < 2 ^ m
upper_below a n m h less =
    let e : n ≡ (n - m) + m = omega arith in
    div_below a (2 ^ (n - m)) (2 ^ m) (pow_pos (n - m)) (subst (λ k. a < k) (ap (λ k. 2 ^ k) e ∙ pow-add 2 (n - m) m ∙ mul_comm (2 ^ (n - m)) (2 ^ m)) less)

-- half of 2 ^ n in 64 bits
pub half_below : (n : ℕ) → 1 ≤ n → n ≤ 64 → 2 ^ (n - 1) < 2 ^ 64
half_below n p q = pow-lt {i = n - 1} {j = 64} (omega arith)

magnitude_some : (n b : ℕ) → b ≢ 0 → b < 2 ^ n → magnitude n b ≢ 0
magnitude_some n b some less = grind (arith, nat_tests)

-- the quotient of two magnitudes is a word
pub quotient_of : (n a b q : ℕ) → b ≢ 0 → b < 2 ^ n → q < 2 ^ n → q ≡ udiv n (magnitude n a) (magnitude n b) →
    word n (magnitude n a / magnitude n b) ≡ q
quotient_of n a b q some below small_q e =
    let ne : (magnitude n b == 0) ≡ false = ne_eqb (magnitude n b) 0 (magnitude_some n b some below) in
    let d : q ≡ magnitude n a / magnitude n b = e ∙ rw ne refl in
    rw (← d) (small q n small_q)

pub sdiv_of : (n a b q r : ℕ) → b ≢ 0 → b < 2 ^ n → q < 2 ^ n → q ≡ udiv n (magnitude n a) (magnitude n b) →
    r ≡ with_sign n (differ (is_negative n a) (is_negative n b)) q → r ≡ sdiv n a b
sdiv_of n a b q r some below small_q e is =
    let ne : (b == 0) ≡ false = ne_eqb b 0 some in
    is ∙ rw (ne, quotient_of n a b q some below small_q e) refl

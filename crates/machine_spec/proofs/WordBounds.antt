-- What operators, loads and stores give has its width.
use Rattle.std.proofs.Common.{◌≡◌, ℕ, zero, suc, ◌+◌, ◌-◌, ◌*◌, ◌/◌, ◌%◌, ◌^◌, ◌<◌, ◌≤◌, Bool, true, false, refl, sym, ap, ◌∙◌, subst, arith, bit_and}
use Rattle.std.specs.Prelude.{◌==◌, nat_lt, if◌then◌else◌, min}
use Rattle.std.proofs.lemmas.Nat.{mod_below, pow_pos, pow-add, mul-add-lt, or_lt, xor_lt, and_le_l, shr_le}
use Rattle.std.proofs.lemmas.Bool.Decides.{nat_tests}
use Rattle.std.proofs.Math.Nat.{div-le_self, mod-le, mul_comm, pow-le-pow_right, pow-succ'}
use Rattle.word_spec.specs.Words as words
use Rattle.word_spec.specs.Memory.{Memory, Endian, Little, Big, little, big, load, store}
use Rattle.machine_spec.specs.Bil.{Bits, BinaryOp, Plus, Minus, Times, Divide, SignedDivide, Modulo, SignedModulo, And, Or, Xor, ShiftLeft, ShiftRight, ShiftSigned, Equal, NotEqual, Less, LessEqual, SignedLess, SignedLessEqual}
use Rattle.machine_spec.specs.BilTyping.{result_width}
use Rattle.machine_spec.specs.BilMeaning.{IsOfType, on_words}

le_lt : (a b c : ℕ) → a ≤ b → b < c → a < c
le_lt a b c p q = omega arith

below_if : (b : Bool) (x y m : ℕ) → x < m → y < m → (if b then x else y) < m
below_if true x y m p q = p
below_if false x y m p q = q

pub bit_below : (b : Bool) → words.bit b < 2
bit_below true = omega arith
bit_below false = omega arith

pub neg_below : (n a : ℕ) → words.neg n a < 2 ^ n
neg_below n a = mod_below _ (2 ^ n) (pow_pos n)

pub complement_below : (n a : ℕ) → words.complement n a < 2 ^ n
complement_below n a = let z = pow_pos n in omega arith

magnitude_below : (n a : ℕ) → a < 2 ^ n → words.magnitude n a < 2 ^ n
magnitude_below n a p = let z = pow_pos n in let y = pow_pos (n - 1) in grind (arith, nat_tests)

sign_below : (n : ℕ) (s : Bool) (q : ℕ) → q < 2 ^ n → words.with_sign n s q < 2 ^ n
sign_below n true q h = neg_below n q
sign_below n false q h = h

pub udiv_below : (n a b : ℕ) → a < 2 ^ n → words.udiv n a b < 2 ^ n
udiv_below n a b p = let z = pow_pos n in below_if (b == 0) (2 ^ n - 1) (a / b) (2 ^ n) (omega arith) (le_lt _ _ _ (div-le_self a b) p)

pub urem_below : (n a b : ℕ) → a < 2 ^ n → words.urem n a b < 2 ^ n
urem_below n a b p = below_if (b == 0) a (a % b) (2 ^ n) p (le_lt _ _ _ (mod-le a b) p)

pub sdiv_below : (n a b : ℕ) → words.sdiv n a b < 2 ^ n
sdiv_below n a b =
    let z = pow_pos n in
    below_if (b == 0) (2 ^ n - 1) _ (2 ^ n) (omega arith) (sign_below n _ _ (mod_below _ (2 ^ n) z))

pub srem_below : (n a b : ℕ) → a < 2 ^ n → words.srem n a b < 2 ^ n
srem_below n a b p =
    let m = magnitude_below n a p in
    let d = mod-le (words.magnitude n a) (words.magnitude n b) in
    below_if (b == 0) a _ (2 ^ n) p (sign_below n _ _ (le_lt _ _ _ d m))

pub shl_below : (n a b : ℕ) → words.shl n a b < 2 ^ n
shl_below n a b = mod_below _ (2 ^ n) (pow_pos n)

pub shr_below : (n a b : ℕ) → a < 2 ^ n → words.shr n a b < 2 ^ n
shr_below n a b p = le_lt _ _ _ (shr_le a (min b n)) p

pub sar_below : (n a b : ℕ) → a < 2 ^ n → words.sar n a b < 2 ^ n
sar_below n a b p = below_if _ _ _ (2 ^ n) (complement_below n _) (shr_below n a b p)

pub sign_extend_below : (n m a : ℕ) → a < 2 ^ n → n ≤ m → words.sign_extend n m a < 2 ^ m
sign_extend_below n m a l h =
    let p : 2 ^ n ≤ 2 ^ m = pow-le-pow_right (omega arith) h in
    below_if (words.is_negative n a) (a + (2 ^ m - 2 ^ n)) a (2 ^ m) (omega arith) (omega arith)

pub and_below : (n a b : ℕ) → a < 2 ^ n → bit_and a b < 2 ^ n
and_below n a b p = le_lt _ _ _ (and_le_l a b) p

-- what an operator gives has its type
pub op_below : (o : BinaryOp) (n a b : ℕ) → a < 2 ^ n → b < 2 ^ n → IsOfType (Bits (result_width o n)) (on_words o n a b)
op_below Plus n a b p q = (refl, mod_below _ (2 ^ n) (pow_pos n))
op_below Minus n a b p q = (refl, mod_below _ (2 ^ n) (pow_pos n))
op_below Times n a b p q = (refl, mod_below _ (2 ^ n) (pow_pos n))
op_below Divide n a b p q = (refl, udiv_below n a b p)
op_below SignedDivide n a b p q = (refl, sdiv_below n a b)
op_below Modulo n a b p q = (refl, urem_below n a b p)
op_below SignedModulo n a b p q = (refl, srem_below n a b p)
op_below And n a b p q = (refl, and_below n a b p)
op_below Or n a b p q = (refl, or_lt n a b p q)
op_below Xor n a b p q = (refl, xor_lt n a b p q)
op_below ShiftLeft n a b p q = (refl, shl_below n a b)
op_below ShiftRight n a b p q = (refl, shr_below n a b p)
op_below ShiftSigned n a b p q = (refl, sar_below n a b p)
op_below Equal n a b p q = (refl, bit_below _)
op_below NotEqual n a b p q = (refl, bit_below _)
op_below Less n a b p q = (refl, bit_below _)
op_below LessEqual n a b p q = (refl, bit_below _)
op_below SignedLess n a b p q = (refl, bit_below _)
op_below SignedLessEqual n a b p q = (refl, bit_below _)

byte_power : (n : ℕ) → 256 ^ n ≡ 2 ^ (8 * n)
byte_power zero = refl
byte_power (suc n) = pow-succ' 256 n ∙ ap (λ z. 256 * z) (byte_power n) ∙ sym (pow-add 2 8 (8 * n)) ∙ ap (λ z. 2 ^ z) (omega arith)

little_below : (n : ℕ) (f : ℕ → ℕ) → ((i : ℕ) → f i < 256) → little n f < 256 ^ n
little_below zero f h = omega arith
little_below (suc n) f h =
    let r = little_below n f h in let b = h n in
    rw (pow-succ' 256 n) (mul-add-lt-up (f n) (256 ^ n) (little n f) b r)
  where
    mul-add-lt-up : (a m b : ℕ) → a < 256 → b < m → b + a * m < 256 * m
    mul-add-lt-up a m b p q = let r = mul-add-lt a m b 256 p q in let e = mul_comm m 256 in omega arith

big_below : (n : ℕ) (f : ℕ → ℕ) → ((i : ℕ) → f i < 256) → big n f < 256 ^ n
big_below zero f h = omega arith
big_below (suc n) f h = let r = big_below n f h in let b = h n in rw (pow-succ' 256 n) (omega arith)

-- a load of n bits
pub load_below : (o : Endian) (n : ℕ) (m : Memory) (a : ℕ) → n % 8 ≡ 0 → ((i : ℕ) → m i < 256) → load o (n / 8) m a < 2 ^ n
load_below Little n m a e h =
    let w : 8 * (n / 8) ≡ n = omega arith in
    subst (λ (z : ℕ). little (n / 8) (λ i. m (words.add 32 a i))
    < z) (byte_power (n / 8) ∙ ap (λ z. 2 ^ z) w) (little_below (n / 8) _ (λ i. h (words.add 32 a i)))
load_below Big n m a e h =
    let w : 8 * (n / 8) ≡ n = omega arith in
    subst (λ (z : ℕ). big (n / 8) (λ i. m (words.add 32 a i)) < z) (byte_power (n / 8) ∙ ap (λ z. 2 ^ z) w) (big_below (n / 8) _ (λ i. h (words.add 32 a i)))

-- a byte of a memory after a store
pub stored_below : (o : Endian) (n : ℕ) (m : Memory) (a v x : ℕ) → m x < 256 → store o n m a v x < 256
stored_below o n m a v x h = below_if (nat_lt (words.sub 32 x a) n) _ (m x) 256 (mod_below _ 256 (omega arith)) h

-- Words of n bits: the numbers below 2 ^ n, with the operators of bit vectors (SMT-LIB 2.6, theory FixedSizeBitVectors). Division by zero is that of RISC-V
-- (Unprivileged ISA 20191213, section 7.2), signed division too.
use Rattle.std.specs.Prelude.{ℕ, ◌+◌, ◌-◌, ◌*◌, ◌/◌, ◌%◌, ◌^◌, ◌==◌, nat_lt, nat_le, Bool, true, false, not, if◌then◌else◌, min}

-- a number as a word of n bits
abbrev pub word : ℕ → ℕ → ℕ
word n a = a % 2 ^ n

-- the sum, modulo 2 ^ n, as are all results
abbrev pub add : ℕ → ℕ → ℕ → ℕ
add n a b = (a + b) % 2 ^ n

-- the difference
abbrev pub sub : ℕ → ℕ → ℕ → ℕ
sub n a b = (a + (2 ^ n - b)) % 2 ^ n

-- the product
abbrev pub mul : ℕ → ℕ → ℕ → ℕ
mul n a b = (a * b) % 2 ^ n

-- the negative
abbrev pub neg : ℕ → ℕ → ℕ
neg n a = (2 ^ n - a) % 2 ^ n

-- each bit turned
abbrev pub complement : ℕ → ℕ → ℕ
complement n a = 2 ^ n - 1 - a

-- the unsigned quotient; by 0 it is all ones
abbrev pub udiv : ℕ → ℕ → ℕ → ℕ
udiv n a b = if b == 0 then 2 ^ n - 1 else a / b

-- the unsigned remainder; by 0 it is the dividend
abbrev pub urem : ℕ → ℕ → ℕ → ℕ
urem n a b = if b == 0 then a else a % b

-- the signed reading is below 0 from half of 2 ^ n on
abbrev pub is_negative : ℕ → ℕ → Bool
is_negative n a = nat_le (2 ^ (n - 1)) a

-- the absolute value of the signed reading
abbrev pub magnitude : ℕ → ℕ → ℕ
magnitude n a = if is_negative n a then 2 ^ n - a else a

-- a number with the sign given
abbrev pub with_sign : ℕ → Bool → ℕ → ℕ
with_sign n minus a = if minus then neg n a else a

-- exactly one of the two
abbrev pub differ : Bool → Bool → Bool
differ true b = not b
differ false b = b

-- signed division, cut toward 0; by 0 it gives all ones
abbrev pub sdiv : ℕ → ℕ → ℕ → ℕ
sdiv n a b = if b == 0 then 2 ^ n - 1 else with_sign n (differ (is_negative n a) (is_negative n b)) (word n (magnitude n a / magnitude n b))

-- the signed remainder has the dividend's sign; by 0 it gives the dividend
abbrev pub srem : ℕ → ℕ → ℕ → ℕ
srem n a b = if b == 0 then a else with_sign n (is_negative n a) (magnitude n a % magnitude n b)

-- the word of one bit that is 1 for true
abbrev pub bit : Bool → ℕ
bit true = 1
bit false = 0

-- a signed word as an unsigned one of the same order: its upper bit is turned
abbrev pub flip : ℕ → ℕ → ℕ
flip n a = add n a (2 ^ (n - 1))

-- the signed order
abbrev pub signed_lt : ℕ → ℕ → ℕ → Bool
signed_lt n a b = nat_lt (flip n a) (flip n b)

-- the signed order, or the same
abbrev pub signed_le : ℕ → ℕ → ℕ → Bool
signed_le n a b = nat_le (flip n a) (flip n b)

-- a shift to the left; an amount of n or above gives all fill, as in every shift
abbrev pub shl : ℕ → ℕ → ℕ → ℕ
shl n a b = (a * 2 ^ min b n) % 2 ^ n

-- a shift to the right, with zeros
abbrev pub shr : ℕ → ℕ → ℕ → ℕ
shr n a b = a / 2 ^ min b n

-- a shift to the right, with the sign
abbrev pub sar : ℕ → ℕ → ℕ → ℕ
sar n a b = if is_negative n a then complement n (complement n a / 2 ^ min b n) else a / 2 ^ min b n

-- a rotation to the right, by an amount modulo n
abbrev pub ror : ℕ → ℕ → ℕ → ℕ
ror n a b = a / 2 ^ (b % n) + a % 2 ^ (b % n) * 2 ^ (n - b % n)

-- bits hi to lo of a word
abbrev pub bits : ℕ → ℕ → ℕ → ℕ
bits hi lo a = a / 2 ^ lo % 2 ^ (hi + 1 - lo)

-- one bit
abbrev pub bit_at : ℕ → ℕ → ℕ
bit_at i a = a / 2 ^ i % 2

-- a word of n bits with its sign, as one of m bits
abbrev pub sign_extend : ℕ → ℕ → ℕ → ℕ
sign_extend n m a = if is_negative n a then a + (2 ^ m - 2 ^ n) else a

-- the upper m of n bits
abbrev pub high : ℕ → ℕ → ℕ → ℕ
high n m a = a / 2 ^ (n - m)

-- the first above the second, which has m bits
abbrev pub concat : ℕ → ℕ → ℕ → ℕ
concat m a b = a * 2 ^ m + b

-- the multiple of 4 at or below an address
abbrev pub aligned : ℕ → ℕ
aligned a = a - a % 4

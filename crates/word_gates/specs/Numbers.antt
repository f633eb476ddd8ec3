-- Words as lists of bits, the lowest first.
use Rattle.std.specs.Prelude.{◌≡◌, ℕ, zero, suc, ◌+◌, ◌*◌, ◌^◌, ◌%◌, ◌<◌, Bool, cond, List, [], ◌∷◌, length}
use Rattle.word_spec.specs.Words.{bit, complement}
use Rattle.gates.specs.declared.bit.Bit.{Bit}
use Rattle.gates.specs.Circuits.{Netlist, next, Grows, Within, bit_value}

-- a bit's value as a number
abbrev pub digit : (ℕ → Bool) → Bit → ℕ
digit v b = bit (bit_value v b)

-- the number that the bits have as binary digits
abbrev pub number : (ℕ → Bool) → List Bit → ℕ
number v [] = 0
number v (b ∷ bs) = digit v b + 2 * number v bs

-- the number of n inputs from the one at f on, which counts from 0
abbrev pub input_number : (ℕ → Bool) → (f n : ℕ) → ℕ
input_number v f zero = 0
input_number v f (suc n) = bit (v (suc f)) + 2 * input_number v (suc f) n

-- a word of so many bits of new, which was made from old with at most n gates
pub record IsWord (old new : Netlist) (n width : ℕ) (bs : List Bit) : Type 0 where
  pub grows : Grows old new n
  pub within : Within (next new) bs
  pub len : length bs ≡ width

-- q and r are the quotient and the remainder of unsigned division of a by d at n bits, which by 0 are all ones and a
pub record IsQuotient (a d n q r : ℕ) : Type 0 where
  pub whole : a ≡ q * d + r
  pub less : 0 < d → r < d
  pub by_zero : d ≡ 0 → q + 1 ≡ 2 ^ n

-- b is t less the number whose complement at n + 1 bits is m, where c says that it is not above t, and else t
abbrev pub IsReduced : ℕ → ℕ → ℕ → Bool → ℕ → Type 0
IsReduced t m n c b = (s : ℕ) × (s + 2 * 2 ^ n * bit c ≡ t + m + 1) × (s < 2 * 2 ^ n) × (b ≡ cond c (s % 2 ^ n) (t % 2 ^ n))

-- the word with each bit turned where the condition is true
abbrev pub turned : ℕ → Bool → ℕ → ℕ
turned n c a = cond c (complement n a) a

-- Memory: a byte at each address. Addresses wrap at 2 ^ 32 (RISC-V Unprivileged ISA 20191213, section 1.4), and a byte that was never given is 0.
use Rattle.std.specs.Prelude.{ℕ, zero, suc, ◌+◌, ◌-◌, ◌*◌, ◌/◌, ◌%◌, ◌^◌, Bool, true, false, List, [], ◌∷◌, ◌==◌, nat_lt, if◌then◌else◌}
use Rattle.word_spec.specs.Words.{add, sub, word}

-- the byte at each address
abbrev pub Memory : Type 0
Memory = ℕ → ℕ

-- a byte order: the lowest byte at the lowest address, or the highest
pub data Endian : Type 0 where
  Little : Endian
  Big : Endian

-- the byte order of a test for the big one
abbrev pub endian : Bool → Endian
endian true = Big
endian false = Little

-- the number of n bytes, byte i being f i
abbrev pub little : ℕ → (ℕ → ℕ) → ℕ
little zero f = 0
little (suc n) f = little n f + f n * 256 ^ n

-- the number of n bytes, the first the highest
abbrev pub big : ℕ → (ℕ → ℕ) → ℕ
big zero f = 0
big (suc n) f = big n f * 256 + f n

-- the number of n bytes in a byte order
abbrev pub number : Endian → ℕ → (ℕ → ℕ) → ℕ
number Little n f = little n f
number Big n f = big n f

-- a load of n bytes at an address
abbrev pub load : Endian → ℕ → Memory → ℕ → ℕ
load e n m a = number e n (λ i. m (add 32 a i))

-- which byte of a number of n bytes, counted from the lowest, stands at place i
abbrev pub place : Endian → ℕ → ℕ → ℕ
place Little n i = i
place Big n i = n - 1 - i

-- the byte at place i of the n bytes of a number
abbrev pub byte_of : Endian → ℕ → ℕ → ℕ → ℕ
byte_of e n v i = v / 256 ^ place e n i % 256

-- a store of the n bytes of a number at an address
abbrev pub store : Endian → ℕ → Memory → ℕ → ℕ → Memory
store e n m a v x = if nat_lt (sub 32 x a) n then byte_of e n v (sub 32 x a) else m x

-- the byte that a list of addresses with their bytes gives; the first of an address counts
abbrev pub byte_in : List (ℕ × ℕ) → ℕ → ℕ
byte_in [] a = 0
byte_in (e ∷ rest) a = if a == e.0 then e.1 else byte_in rest a

-- the memory of a list of addresses with their bytes
abbrev pub memory_of : List (ℕ × ℕ) → Memory
memory_of entries a = byte_in entries (word 32 a)

-- the addresses of n bytes from one on
abbrev pub span : ℕ → ℕ → List ℕ
span a zero = []
span a (suc n) = a ∷ span (add 32 a 1) n

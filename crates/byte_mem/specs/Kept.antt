-- How a memory is kept: its bytes that are not 0, by rising address.
use Rattle.std.specs.Prelude.{ℕ, ◌<◌, ◌^◌, List, length, get_or}

-- what contracts see of a memory: its entries, addresses with bytes, and how many more fit in without taking memory
pub record Contents : Type 0 where
  pub entries : List (ℕ × ℕ)
  pub spare : ℕ

-- addresses rise
abbrev pub IsRising : List (ℕ × ℕ) → Type 0
IsRising entries = (i j : ℕ) (d : ℕ × ℕ) → i < j → j < length entries → (get_or entries i d).0 < (get_or entries j d).0

-- addresses of 32 bits rise and no byte is 0, so that equal memories have equal entries
pub record IsKept (entries : List (ℕ × ℕ)) : Type 0 where
  pub rising : IsRising entries
  pub nonzero : (i : ℕ) (d : ℕ × ℕ) → i < length entries → 0 < (get_or entries i d).1
  pub small : (i : ℕ) (d : ℕ × ℕ) → i < length entries → (get_or entries i d).0 < 2 ^ 32

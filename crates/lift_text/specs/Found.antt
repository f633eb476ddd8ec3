-- What is found at an address.
use Rattle.std.specs.Prelude.{ℕ, ◌≡◌, ◌≤◌, ◌<◌, ◌+◌, ◌^◌, Bool, true, false, List, length, slice_index}
use Rattle.std.specs.List.{flat_map}
use Rattle.word_spec.specs.Memory.{Endian, Little, number}
use Rattle.machine_spec.specs.Machine.{Machine, IsAtPlace, width, first_half}
use Rattle.bilv_spec.specs.Elf.{loaded}
use Rattle.word_spec.specs.Texts.{hex_digits}
use Rattle.bilv_spec.specs.LiftText.{is_given, is_word_at, word_in, byte_at}
use Rattle.lift_text.specs.declared.candidates.RowBytes.{RowBytes}
use Rattle.lift_text.specs.declared.candidates.RowBytes.TheVariants.{Two, Four}
use Rattle.lift_text.specs.declared.candidates.Candidate.{Candidate}
use Rattle.lift_text.specs.declared.candidates.Candidate.TheVariants.{Word, Next}

-- the bytes of a row, and how many they are
abbrev pub bytes_of : RowBytes → List ℕ
bytes_of (Two bytes) = bytes
bytes_of (Four bytes) = bytes

abbrev pub count_of : RowBytes → ℕ
count_of (Two bytes) = 2
count_of (Four bytes) = 4

-- their number: that of two has the lowest first, and that of four is in a byte order
abbrev pub row_number : Endian → RowBytes → ℕ
row_number e (Two bytes) = number Little 2 (λ i. slice_index bytes i)
row_number e (Four bytes) = number e 4 (λ i. slice_index bytes i)

-- the byte at an address is executable and given by the file
pub record IsGivenByte (file : List ℕ) (a byte : ℕ) : Type 0 where
  pub given : is_given file a ≡ true
  pub value : byte ≡ byte_at (loaded file a)
  pub small : byte < 256

-- a word stands at an address, and its row has these bytes
pub record IsWordFound (m : Machine) (file : List ℕ) (at : ℕ) (row : RowBytes) : Type 0 where
  pub word : is_word_at m file at ≡ true
  pub count : length (bytes_of row) ≡ count_of row
  pub wide : width m.narrow (first_half (word_in m file at)) ≡ count_of row
  pub each : (i : ℕ) → i < count_of row → slice_index (bytes_of row) i ≡ byte_at (loaded file (at + i))
  pub small : (i : ℕ) → i < count_of row → slice_index (bytes_of row) i < 256

-- the first number from one on that is a multiple of the unit of addresses
pub record IsNextPlace (narrow : Bool) (from place : ℕ) : Type 0 where
  pub behind : from ≤ place
  pub within : place ≤ 2 ^ 32
  pub aligned : IsAtPlace narrow place
  pub first : (a : ℕ) → from ≤ a → a < place → ¬ IsAtPlace narrow a

-- no word stands from an address on before a later one at which a row can stand
pub record IsGap (m : Machine) (file : List ℕ) (at next : ℕ) : Type 0 where
  pub later : at < next
  pub within : next ≤ 2 ^ 32
  pub aligned : IsAtPlace m.narrow next
  pub none : (a : ℕ) → at ≤ a → a < next → is_word_at m file a ≡ false

-- what stands at an address
abbrev pub IsCandidate : Machine → List ℕ → (at : ℕ) → Candidate → Type 0
IsCandidate m file at (Word row) = IsWordFound m file at row
IsCandidate m file at (Next next) = IsGap m file at next

-- two digits for each byte
abbrev pub bytes_text : List ℕ → List ℕ
bytes_text bytes = flat_map (hex_digits 2) bytes

-- Memories that have the bytes that the file gives.
use Rattle.std.specs.Prelude.{ℕ, ◌≡◌, ◌≤◌, ◌<◌, ◌^◌, ◌+◌, ◌-◌, ◌⊎◌, List, slice_index, slice_index_or}
use Rattle.word_spec.specs.Memory.{memory_of}
use Rattle.word_spec.specs.State.{State}
use Rattle.bilv_spec.specs.Notes.{FixedRange}
use Rattle.bilv_spec.specs.Run.{Program}
use Rattle.bilv_spec.specs.EntryFaults.{IsWrongByte}
use Rattle.machine_spec.specs.StateText.{known_or}
use Rattle.known_bytes.specs.Known.{given}
use Rattle.elf32_reader.specs.declared.parts.Part.{Part}

-- a memory has the part's byte at an address
abbrev pub HasByte : (ℕ → ℕ) → Part → ℕ → Type 0
HasByte mem part x = mem x ≡ slice_index part.bytes.now (x - part.first)

-- a memory has the part's bytes before an address
abbrev pub HasBytesTo : (ℕ → ℕ) → Part → ℕ → Type 0
HasBytesTo mem part upto = (x : ℕ) → part.first ≤ x → x < upto → HasByte mem part x

-- the first address of a part at which a memory has another byte
pub record IsFirstOther (mem : ℕ → ℕ) (part : Part) (a : ℕ) : Type 0 where
  pub low : part.first ≤ a
  pub high : a ≤ part.last
  pub other : ¬ HasByte mem part a
  pub before : HasBytesTo mem part a

-- no byte before an address is wrong
abbrev pub IsRightTo : Program → State → ℕ → Type 0
IsRightTo p s upto = (x : ℕ) → x < upto → ¬ IsWrongByte p s x

-- the first wrong byte
abbrev pub IsFirstWrong : Program → State → ℕ → Type 0
IsFirstWrong p s a = IsWrongByte p s a × IsRightTo p s a

-- a byte was stored at an address
pub record IsPut (old : List (ℕ × ℕ)) (a value : ℕ) (new : List (ℕ × ℕ)) : Type 0 where
  pub here : memory_of new a ≡ value
  pub other : (x : ℕ) → x < 2 ^ 32 → ¬ (x ≡ a) → memory_of new x ≡ memory_of old x

-- the memory of the first n bytes of a list of bytes by their addresses
pub record HasFirst (bytes : List (ℕ × ℕ)) (n : ℕ) (entries : List (ℕ × ℕ)) : Type 0 where
  pub each : (k : ℕ) (d : ℕ × ℕ) → k < n → memory_of entries (slice_index_or bytes k d).0 ≡ (slice_index_or bytes k d).1
  pub none : (x : ℕ) → x < 2 ^ 32 → ((k : ℕ) (d : ℕ × ℕ) → k < n → ¬ ((slice_index_or bytes k d).0 ≡ x)) → memory_of entries x ≡ 0

-- the bytes of a part were stored, but for those behind its own, where the memory was 0; all others are as they were
pub record Fills (part : Part) (old new : List (ℕ × ℕ)) : Type 0 where
  pub within : (x : ℕ) → part.first ≤ x → x ≤ part.last → memory_of old x ≡ 0 → HasByte (memory_of new) part x
  pub without : (x : ℕ) → x < 2 ^ 32 → (x < part.first) ⊎ (part.last < x) → memory_of new x ≡ memory_of old x

-- so many of the part's own bytes were stored, and all others are as they were
pub record FillsTo (part : Part) (count : ℕ) (old new : List (ℕ × ℕ)) : Type 0 where
  pub within : (x : ℕ) → part.first ≤ x → x < part.first + count → HasByte (memory_of new) part x
  pub without : (x : ℕ) → x < 2 ^ 32 → (x < part.first) ⊎ (part.first + count ≤ x) → memory_of new x ≡ memory_of old x

-- the memory of a start's bytes, and before an address of the bytes that the file gives
pub record HasGiven (file : List ℕ) (ranges : List FixedRange) (bytes : List (ℕ × ℕ)) (upto : ℕ) (entries : List (ℕ × ℕ)) : Type 0 where
  pub before : (x : ℕ) → x < 2 ^ 32 → x < upto → memory_of entries x ≡ known_or (given file ranges x) bytes x
  pub behind : (x : ℕ) → x < 2 ^ 32 → upto ≤ x → memory_of entries x ≡ memory_of bytes x

-- The outside: files that are read by name, text that is written, and counts of faults that never fall.
use Rattle.std.specs.Prelude.{ℕ, ◌≡◌, ◌≤◌, ◌<◌, ◌+◌, ◌-◌, ◌^◌, min, List, ◌++◌, Option, Some, None, length, take, drop}

-- What a shelf tells of a name: nothing, that no file has it, or the bytes of its file.
pub data Held : Type 0 where
  Untold : Held
  Absent : Held
  Bytes : List ℕ → Held

-- the bytes may be those of the file, by what is told of it
abbrev pub Agrees : Held → List ℕ → Type 0
Agrees Untold bytes = Unit {0}
Agrees Absent bytes = ⊥
Agrees (Bytes file) bytes = bytes ≡ file

-- the file has more bytes than a limit
abbrev pub IsLonger : Held → ℕ → Type 0
IsLonger held limit = (file : List ℕ) × Agrees held file × (limit < length file)

-- A count of 64 bits has risen. At its last value it counts as risen.
abbrev pub Rose : ℕ → ℕ → Type 0
Rose old new = min (old + 1) (2 ^ 64 - 1) ≤ new

-- A read gives the first n bytes of the buffer: they are those of the file from a place on, and there are none only at its end. A name that no file has can't
-- be read.
abbrev pub Reads : Held → (at : ℕ) → (buffer : List ℕ) → ℕ → Type 0
Reads Untold at buffer n = Unit {0}
Reads Absent at buffer n = ⊥
Reads (Bytes file) at buffer n = (take n buffer ≡ take n (drop at file)) × (n ≤ length file - at) × (n ≡ 0 → 0 < length buffer → length file ≤ at)

-- what is written has grown by a piece, where it is told
abbrev pub Appends : Option (List ℕ) → List ℕ → Option (List ℕ) → Type 0
Appends None piece new = new ≡ None
Appends (Some text) piece new = new ≡ Some (text ++ piece)

-- a write that failed: a proper front of the bytes was written
pub record FailedWrite (before : Option (List ℕ)) (bytes : List ℕ) (after : Option (List ℕ)) (written : ℕ) : Type 0 where
  pub some_left : written < length bytes
  pub appends : Appends before (take written bytes) after

-- a write that took nothing of the piece that was offered, which is all that was left
pub record StuckWrite (before : Option (List ℕ)) (bytes : List ℕ) (after : Option (List ℕ)) (written offered : ℕ) : Type 0 where
  pub some_offered : 0 < offered
  pub all : written + offered ≡ length bytes
  pub appends : Appends before (take written bytes) after

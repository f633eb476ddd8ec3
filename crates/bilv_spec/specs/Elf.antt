-- What an ELF32 file loads (System V ABI, chapters 4, object files, and 5, program loading).
use Rattle.std.specs.Prelude.{ℕ, zero, suc, ◌≡◌, ◌≤◌, ◌<◌, ◌↔◌, true, false, length, slice_index_or, ◌+◌, ◌-◌, ◌/◌, ◌%◌, Bool, List, [], ◌∷◌, Option, Some, None, ◌==◌, ◌&&◌, ◌||◌, not, nat_lt, nat_le, if◌then◌else◌, slice_index, find}
use Rattle.word_spec.specs.Memory.{number, Endian, endian}

-- the file's numbers have their highest byte first, by e_ident (System V ABI, ELF header)
abbrev pub is_big : List ℕ → Bool
is_big file = slice_index file 5 == 2

-- the byte order of a file's numbers
abbrev pub file_endian : List ℕ → Endian
file_endian file = endian (is_big file)

-- the number of n bytes at an offset
abbrev pub field : List ℕ → ℕ → ℕ → ℕ
field file n at = number (file_endian file) n (λ i. slice_index file (at + i))

-- a program header (System V ABI, program header)
pub record Segment : Type 0 where
  pub kind : ℕ
  pub offset : ℕ
  pub address : ℕ
  pub in_file : ℕ
  pub in_memory : ℕ
  pub flags : ℕ

-- the program header at an offset
abbrev pub segment_at : List ℕ → ℕ → Segment
segment_at file at = record {
  kind = field file 4 at;
  offset = field file 4 (at + 4);
  address = field file 4 (at + 8);
  in_file = field file 4 (at + 16);
  in_memory = field file 4 (at + 20);
  flags = field file 4 (at + 24);
}

-- n headers of 32 bytes from an offset on
abbrev pub segments_from : List ℕ → ℕ → ℕ → List Segment
segments_from file at zero = []
segments_from file at (suc n) = segment_at file at ∷ segments_from file (at + 32) n

-- the program headers
abbrev pub segments : List ℕ → List Segment
segments file = segments_from file (field file 4 28) (field file 2 44)

-- a loaded byte, with the flags of its segment
pub record Cell : Type 0 where
  pub byte : ℕ
  pub flags : ℕ

-- the segment is loaded, as PT_LOAD, which is 1, says, and has the address
abbrev pub covers : ℕ → Segment → Bool
covers a s = (s.kind == 1) && nat_le s.address a && nat_lt a (s.address + s.in_memory)

-- the byte of a segment at an address; behind the file's part it is 0
abbrev pub cell : List ℕ → ℕ → Segment → Cell
cell file a s = record {
  byte = if nat_lt (a - s.address) s.in_file then slice_index file (s.offset + (a - s.address)) else 0;
  flags = s.flags;
}

-- the byte of the segment that was found
abbrev pub cell_in : List ℕ → ℕ → Option Segment → Option Cell
cell_in file a None = None
cell_in file a (Some s) = Some (cell file a s)

-- the byte that the file loads at an address
abbrev pub loaded : List ℕ → ℕ → Option Cell
loaded file a = cell_in file a (find (covers a) (segments file))

-- the flag X, which is 1
abbrev pub executable : ℕ → Bool
executable flags = flags % 2 == 1

-- the flag W, which is 2
abbrev pub writable : ℕ → Bool
writable flags = flags / 2 % 2 == 1

-- a byte that no run changes: it is executable, or not writable
abbrev pub kept : Cell → Bool
kept c = executable c.flags || not (writable c.flags)

-- the byte is loaded and executable
abbrev pub is_executable : Option Cell → Bool
is_executable None = false
is_executable (Some c) = executable c.flags

-- the byte is loaded and kept
abbrev pub is_kept : Option Cell → Bool
is_kept None = false
is_kept (Some c) = kept c

-- the byte that was found, if one was
abbrev pub byte_in : Option Cell → Option ℕ
byte_in None = None
byte_in (Some c) = Some c.byte

-- the byte at an address, where one is loaded
abbrev pub byte_at : List ℕ → ℕ → Option ℕ
byte_at file a = byte_in (loaded file a)

-- the flags of what was found, 0 where nothing was
abbrev pub flags_in : Option Cell → ℕ
flags_in None = 0
flags_in (Some c) = c.flags

-- the flags at an address, 0 where no byte is loaded
abbrev pub flags_at : List ℕ → ℕ → ℕ
flags_at file a = flags_in (loaded file a)

-- the byte at an address is kept
abbrev pub kept_at : List ℕ → ℕ → Bool
kept_at file a = is_kept (loaded file a)

-- an address lies in one of the runs, each of which is a first and a last address
abbrev pub IsInRuns : List (ℕ × ℕ) → ℕ → Type 0
IsInRuns runs a = (i : ℕ) × (i < length runs) × ((slice_index_or runs i (0, 0)).0 ≤ a) × (a ≤ (slice_index_or runs i (0, 0)).1)

-- the maximal runs of kept addresses, rising: no run is empty, a gap stands between two, and they hold the kept addresses
pub record IsKeptRuns (file : List ℕ) (runs : List (ℕ × ℕ)) : Type 0 where
  pub filled : (i : ℕ) → i < length runs → (slice_index_or runs i (0, 0)).0 ≤ (slice_index_or runs i (0, 0)).1
  pub apart : (i : ℕ) → i + 1 < length runs → (slice_index_or runs i (0, 0)).1 + 1 < (slice_index_or runs (i + 1) (0, 0)).0
  pub exact : (a : ℕ) → (kept_at file a ≡ true) ↔ IsInRuns runs a

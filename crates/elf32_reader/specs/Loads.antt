-- The loaded segments, as the reader keeps them.
use Rattle.std.specs.Prelude.{ℕ, ◌+◌, ◌*◌, ◌≤◌, ◌<◌, ◌&&◌, ◌==◌, nat_lt, Bool, List, length, slice_index_or}
use Rattle.std.specs.List.{count_by}
use Rattle.bilv_spec.specs.Elf.{field, Segment, segment_at, covers}
use Rattle.elf32_reader.specs.declared.segments.ProgramHeader.{ProgramHeader}

-- what a program header in the code stands for
abbrev pub segment : ProgramHeader → Segment
segment h = record {
  kind = h.kind;
  offset = h.offset;
  address = h.address;
  in_file = h.in_file;
  in_memory = h.in_memory;
  flags = h.flags;
}

-- program header i of the file
abbrev pub header : List ℕ → ℕ → Segment
header file i = segment_at file (field file 4 28 + 32 * i)

-- a segment that has addresses: it is PT_LOAD, which is 1, and has bytes in memory
abbrev pub has_addresses : Segment → Bool
has_addresses s = (s.kind == 1) && nat_lt 0 s.in_memory

-- how many segments cover an address
abbrev pub layers : ℕ → List ProgramHeader → ℕ
layers a hs = count_by (λ h. covers a (segment h)) hs

-- each segment ends before those behind it begin
abbrev pub IsApart : List ProgramHeader → Type 0
IsApart hs =
    (i j : ℕ) (d : ProgramHeader) → i < j → j < length hs
    → (slice_index_or hs i d).address + (slice_index_or hs i d).in_memory ≤ (slice_index_or hs j d).address

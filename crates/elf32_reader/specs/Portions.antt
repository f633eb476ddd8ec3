-- The loaded addresses, part by part.
use Rattle.std.specs.Prelude.{ℕ, ◌≡◌, ◌≤◌, ◌<◌, ◌+◌, ◌-◌, ◌&&◌, nat_lt, true, List, None, Some, length, slice_get, slice_index}
use Rattle.bilv_spec.specs.Elf.{Segment, segments, covers, loaded, byte_at, flags_at, kept_at, cell, executable}
use Rattle.bilv_spec.specs.LiftText.{is_given}
use Rattle.elf32_reader.specs.declared.segments.ProgramHeader.{ProgramHeader}
use Rattle.elf32_reader.specs.declared.parts.Part.{Part}
use Rattle.elf32_reader.specs.Loads.{segment}
use Rattle.elf32_reader.specs.Images.{keeps}

-- The first loaded addresses from one on, up to the last one of their segment: nothing is loaded before them, and the part has their flags and the bytes that
-- the segment has in the file for them; those behind are 0.
pub record IsFirstPart (file : List ℕ) (a : ℕ) (part : Part) : Type 0 where
  pub behind : a ≤ part.first
  pub some : part.first ≤ part.last
  pub loads : Segment
  pub of_file : (i : ℕ) × (slice_get (segments file) i ≡ Some loads)
  pub covered : covers part.first loads ≡ true
  pub ends : part.last + 1 ≡ loads.address + loads.in_memory
  pub stored : (x : ℕ) → part.first ≤ x → nat_lt (x - loads.address) loads.in_file ≡ nat_lt (x - part.first) (length part.bytes.now)
  pub gap : (x : ℕ) → a ≤ x → x < part.first → loaded file x ≡ None
  pub kept : (x : ℕ) → part.first ≤ x → x ≤ part.last → kept_at file x ≡ part.kept
  pub flags : (x : ℕ) → part.first ≤ x → x ≤ part.last → flags_at file x ≡ part.flags
  pub bytes : (x : ℕ) → part.first ≤ x → x ≤ part.last → byte_at file x ≡ Some (slice_index part.bytes.now (x - part.first))
  pub given : (x : ℕ) → part.first ≤ x → x ≤ part.last → is_given file x ≡ (executable part.flags && nat_lt (x - part.first) (length part.bytes.now))

-- the part of a segment from one of its addresses on
pub record IsPartOf (file : List ℕ) (h : ProgramHeader) (a : ℕ) (part : Part) : Type 0 where
  pub first : part.first ≡ a
  pub last : part.last ≡ h.address + (h.in_memory - 1)
  pub kept : part.kept ≡ keeps h.flags
  pub flags : part.flags ≡ h.flags
  pub bytes : (x : ℕ) → a ≤ x → slice_index part.bytes.now (x - a) ≡ (cell file x (segment h)).byte
  pub given : (x : ℕ) → a ≤ x → nat_lt (x - h.address) h.in_file ≡ nat_lt (x - a) (length part.bytes.now)

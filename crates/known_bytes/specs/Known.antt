-- Addresses whose byte the file gives.
use Rattle.std.specs.Prelude.{ℕ, ◌≡◌, ◌≤◌, ◌<◌, ◌-◌, ◌||◌, ◌&&◌, Bool, true, false, List, Option, Some, None, is_some, slice_index, slice_index_or, length, if◌then◌else◌}
use Rattle.bilv_spec.specs.Elf.{loaded, is_kept}
use Rattle.bilv_spec.specs.Notes.{FixedRange}
use Rattle.bilv_spec.specs.Verdict.{fixed}
use Rattle.bilv_spec.specs.Points.{byte_of_cell}
use Rattle.notes_value.specs.declared.notes.FixedRange as declared
use Rattle.elf32_reader.specs.declared.parts.Part.{Part}

-- the byte at an address is kept or fixed, by a file and fixed ranges
abbrev pub is_known : List ℕ → List FixedRange → ℕ → Bool
is_known file ranges a = is_kept (loaded file a) || (is_some (loaded file a) && fixed ranges a)

-- the byte that the file gives at an address
abbrev pub given : List ℕ → List FixedRange → ℕ → Option ℕ
given file ranges a = if is_known file ranges a then Some (byte_of_cell (loaded file a)) else None

-- the first known addresses from one on: those from the part's first to its last, whose bytes it has, 0 where its own have ended
pub record IsFirstKnown (file : List ℕ) (ranges : List FixedRange) (a : ℕ) (part : Part) : Type 0 where
  pub behind : a ≤ part.first
  pub some : part.first ≤ part.last
  pub gap : (x : ℕ) → a ≤ x → x < part.first → is_known file ranges x ≡ false
  pub known : (x : ℕ) → part.first ≤ x → x ≤ part.last → is_known file ranges x ≡ true
  pub bytes : (x : ℕ) → part.first ≤ x → x ≤ part.last → byte_of_cell (loaded file x) ≡ slice_index part.bytes.now (x - part.first)

-- one of the ranges holds the addresses from one up to another
abbrev pub IsHeld : List declared.FixedRange → ℕ → ℕ → Type 0
IsHeld ranges a high =
    (k : ℕ) × (k < length ranges) × ((d : declared.FixedRange) → ((slice_index_or ranges k d).low ≤ a) × (high ≤ (slice_index_or ranges k d).high))

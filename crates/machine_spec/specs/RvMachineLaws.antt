-- Laws of the machine of RV32IM, with the compressed instructions and without them.
use Rattle.std.specs.Prelude.{◌≡◌, ◌<◌, ◌^◌, ℕ, Bool, true, Some, Contains, slice_get}
use Rattle.machine_spec.specs.Machine.{Row}
use Rattle.machine_spec.specs.Rv.{Instruction, table, fits, fields, rv_row}
use Rattle.machine_spec.specs.RvShort.{Short, shorts, is_short, expansion, short_row, short_row_of, rvc_row}
use Rattle.machine_spec.specs.RvMachine.{rv32}
use Rattle.machine_spec.specs.StateText.{rv_layout}
use Rattle.machine_spec.specs.MachineLaws.{IsLawful, IsLawfulMachine, IsFitted}

-- the row of a word is that of an instruction of the table that the word is of, for the word's fields
abbrev pub RowsAreOfTheTable : Type 0
RowsAreOfTheTable = (w : ℕ) (row : Row) → rv_row w ≡ Some row → (i : Instruction) × Contains table i × (fits i w ≡ true) × (row ≡ i.row (fields i.imm w))

-- each row is lawful, and as long as its first halfword says
abbrev pub RvIsLawful : Type 0
RvIsLawful = (compressed : Bool) → IsLawfulMachine (rv32 compressed)

-- its state texts name its registers
abbrev pub RvIsFitted : Type 0
RvIsFitted = (compressed : Bool) → IsFitted (rv32 compressed) (rv_layout compressed)

-- A compressed instruction does what its expansion does, but that it has 2 bytes; the expansion of a halfword is a word.
abbrev pub ShortIsExpansion : Type 0
ShortIsExpansion = (h w : ℕ) → h < 2 ^ 16 → expansion h ≡ Some w → (rvc_row true h ≡ short_row_of (rv_row w)) × (w < 2 ^ 32)

-- a lawful row with 2 bytes in place of 4 is lawful
abbrev pub ShortIsLawful : Type 0
ShortIsLawful = (row : Row) → IsLawful row → IsLawful (short_row row)

-- No halfword is of two lines of the compressed table.
abbrev pub OneShort : Type 0
OneShort = (h i j : ℕ) (a b : Short) → slice_get shorts i ≡ Some a → slice_get shorts j ≡ Some b → is_short a h ≡ true → is_short b h ≡ true → i ≡ j

-- Laws of the tables of rows.
use Rattle.std.specs.Prelude.{ℕ, ◌≡◌, true, Some, slice_get}
use Rattle.word_spec.specs.Memory.{Endian}
use Rattle.machine_spec.specs.Rv.{Instruction, table, fits}
use Rattle.machine_spec.specs.Arm as arm

-- No word is of two lines of the RV32IM table: two places at which its line is fitted are the same place.
abbrev pub RvOneRow : Type 0
RvOneRow = (w i j : ℕ) (a b : Instruction) → slice_get table i ≡ Some a → slice_get table j ≡ Some b → fits a w ≡ true → fits b w ≡ true → i ≡ j

-- No word is of two lines of the ARM table of a profile.
abbrev pub ArmOneRow : Type 0
ArmOneRow =
    (e : Endian) (profile : arm.Profile) (w i j : ℕ) (a b : arm.Instruction) → slice_get (arm.table e profile) i ≡ Some a →
    slice_get (arm.table e profile) j ≡ Some b → a.is w ≡ true → b.is w ≡ true → i ≡ j

-- The program of a file: its rows are lawful, and what the options of its machine change.
use Rattle.std.proofs.Common.{◌≡◌, ℕ, ◌<◌, ◌%◌, ◌^◌, List, Option, Some, None, Bool, true, false, refl, ap, arith}
use Rattle.std.specs.Prelude.{slice_index, if◌then◌else◌, ◌==◌, nat_lt, ◌-◌, ◌+◌}
use Rattle.word_spec.specs.Words.{add}
use Rattle.word_spec.specs.Memory.{Endian, Little, number}
use Rattle.bilv_spec.specs.Elf.{file_endian, Segment, cell_in}
use Rattle.machine_spec.specs.Machine.{Machine, Row, width, first_half, taken}
use Rattle.machine_spec.specs.MachineLaws.{IsLawfulMachine}
use Rattle.bilv_spec.specs.Run.{Program, fetchable}
use Rattle.machine_spec.specs.RvMachine.{rv32}
use Rattle.machine_spec.specs.Arm.{arm}
use Rattle.bilv_spec.specs.Points.{byte_of_cell, file_word}
use Rattle.call_spec.specs.Calls.{Options}
use Rattle.bilv_spec.specs.Files.{order_of, machine_of, is_rv}
use Rattle.machine_spec.specs.StateText.{rv_layout, arm_layout}
use Rattle.bilv_spec.specs.PointLaws.{HasLawfulRows}
use Rattle.bilv_spec.specs.ProgramLaws.{RiscVHasOneOption, ArmHasOneOption}
use Rattle.machine_spec.proofs.WordBounds.{load_below}
use Rattle.machine_spec.proofs.RvNarrow.{rv_is_lawful}
use Rattle.machine_spec.proofs.ArmLawful.{arm_is_lawful}

-- bytes of a file of bytes
chosen_small : (b : Bool) (n : ℕ) → n < 256 → (if b then n else 0) < 256
chosen_small true n h = h
chosen_small false n h = omega arith

pub cell_small : (file : List ℕ) → ((i : ℕ) → slice_index file i < 256) → (a : ℕ) (o : Option Segment) → byte_of_cell (cell_in file a o) < 256
cell_small file small a None = omega arith
cell_small file small a (Some s) = chosen_small (nat_lt (a - s.address) s.in_file) (slice_index file (s.offset + (a - s.address))) (small _)

taken_small : (narrow : Bool) (w : ℕ) → w < 2 ^ 32 → taken narrow w < 2 ^ 32
taken_small narrow w small = by_width (width narrow (first_half w) == 2)
  where
    by_width : (b : Bool) → (if b then first_half w else w) < 2 ^ 32
    by_width true = omega arith
    by_width false = small

word_small : (p : Program) → ((a : ℕ) → byte_of_cell (p.loaded a) < 256) → (a : ℕ) → file_word p a < 2 ^ 32
word_small p small a =
    taken_small p.machine.narrow (number p.machine.endian 4 (λ i. byte_of_cell (p.loaded (add 32 a i))))
    (load_below p.machine.endian 32 (λ x. byte_of_cell (p.loaded x)) a refl small)

pub machine_lawful : (b : Bool) (e : Endian) (o : Options) → IsLawfulMachine (if b then rv32 o.compressed else arm e o.profile)
machine_lawful true e o = rv_is_lawful o.compressed
machine_lawful false e o = arm_is_lawful e o.profile

pub row_of_word : (m : Machine) (b : Bool) (w : ℕ) (row : Row) → (if b then m.row w else None) ≡ Some row → m.row w ≡ Some row
row_of_word m true w row e = e
row_of_word m false w row e = absurd (cc)

pub rows_lawful : (p : Program) → IsLawfulMachine p.machine → ((a : ℕ) → byte_of_cell (p.loaded a) < 256) → HasLawfulRows p
rows_lawful p lawful small a row e = lawful.rows (file_word p a) row (word_small p small a) (row_of_word p.machine (fetchable p (file_word p a) a) (file_word p a) row e)

order_by : (b : Bool) (e : Endian) (o : Options) → (if b then Little else e) ≡ (if b then rv32 o.compressed else arm e o.profile).endian
order_by true e o = refl
order_by false e o = refl

pub order_is_of_file : (o : Options) (file : List ℕ) → order_of file ≡ (machine_of o file).endian
order_is_of_file o file = order_by (is_rv file) (file_endian file) o

pub risc_v_has_one_option : RiscVHasOneOption
risc_v_has_one_option o file is = (
  ap (λ (b : Bool). if b then rv32 o.compressed else arm (file_endian file) o.profile) is,
  ap (λ (b : Bool). if b then rv_layout o.compressed else arm_layout (file_endian file) o.profile) is,
)

pub arm_has_one_option : ArmHasOneOption
arm_has_one_option o file is = (
  ap (λ (b : Bool). if b then rv32 o.compressed else arm (file_endian file) o.profile) is,
  ap (λ (b : Bool). if b then rv_layout o.compressed else arm_layout (file_endian file) o.profile) is,
)

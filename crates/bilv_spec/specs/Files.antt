-- The program of an ELF file and notes.
use Rattle.std.specs.Prelude.{ℕ, ◌≡◌, ◌==◌, Bool, false, List, if◌then◌else◌}
use Rattle.word_spec.specs.Memory.{Endian, Little}
use Rattle.machine_spec.specs.Machine.{Machine}
use Rattle.bilv_spec.specs.Elf.{field, file_endian, loaded}
use Rattle.bilv_spec.specs.ElfFaults.{Finds}
use Rattle.bilv_spec.specs.Notes.{Notes, Function, At, Named}
use Rattle.bilv_spec.specs.Run.{Program, in_memory}
use Rattle.machine_spec.specs.RvMachine.{rv32}
use Rattle.machine_spec.specs.Arm.{arm}
use Rattle.machine_spec.specs.StateText.{Layout, rv_layout, arm_layout}
use Rattle.call_spec.specs.Calls.{Options}

-- e_machine is 243 for RISC-V, and 40 for ARM
abbrev pub is_rv : List ℕ → Bool
is_rv file = field file 2 18 == 243

-- the byte order of a file's words, which no option changes
abbrev pub order_of : List ℕ → Endian
order_of file = if is_rv file then Little else file_endian file

-- the machine of a file
abbrev pub machine_of : Options → List ℕ → Machine
machine_of o file = if is_rv file then rv32 o.compressed else arm (file_endian file) o.profile

-- the layout of its state texts
abbrev pub layout_of : Options → List ℕ → Layout
layout_of o file = if is_rv file then rv_layout o.compressed else arm_layout (file_endian file) o.profile

-- the program of a machine, an ELF file, notes and the address of their function
abbrev pub program_of : Machine → List ℕ → Notes → ℕ → Program
program_of m file notes entry = record { machine = m; word = in_memory m; loaded = loaded file; entry = entry; notes = notes; out = λ f. false }

-- the address of the function: the number that the notes give, or what their name finds
abbrev pub IsFunctionAt : (narrow : Bool) → List ℕ → Function → ℕ → Type 0
IsFunctionAt narrow file (At a) entry = a ≡ entry
IsFunctionAt narrow file (Named name) entry = Finds narrow file name entry

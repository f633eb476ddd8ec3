-- Laws of the machine of a file.
use Rattle.std.specs.Prelude.{ℕ, ◌≡◌, true, false, List}
use Rattle.bilv_spec.specs.Elf.{file_endian}
use Rattle.call_spec.specs.Calls.{Options, default_options}
use Rattle.bilv_spec.specs.Files.{is_rv, order_of, machine_of, layout_of}
use Rattle.machine_spec.specs.RvMachine.{rv32}
use Rattle.word_spec.specs.Profiles.{V4}
use Rattle.machine_spec.specs.Arm.{arm}
use Rattle.machine_spec.specs.StateText.{rv_layout, arm_layout}

-- no option changes the byte order of a file's machine
abbrev pub OrderIsOfFile : Type 0
OrderIsOfFile = (o : Options) (file : List ℕ) → order_of file ≡ (machine_of o file).endian

-- of a RISC-V file the compressed instructions alone are an option
abbrev pub RiscVHasOneOption : Type 0
RiscVHasOneOption =
    (o : Options) (file : List ℕ) → is_rv file ≡ true → (machine_of o file ≡ rv32 o.compressed) × (layout_of o file ≡ rv_layout o.compressed)

-- of an ARM file the profile alone is an option
abbrev pub ArmHasOneOption : Type 0
ArmHasOneOption =
    (o : Options) (file : List ℕ) → is_rv file ≡ false →
    (machine_of o file ≡ arm (file_endian file) o.profile) × (layout_of o file ≡ arm_layout (file_endian file) o.profile)

-- where no option is given, an ARM file is of version 4, and a RISC-V file has no compressed instructions
abbrev pub DefaultsAreFirst : Type 0
DefaultsAreFirst = (default_options.profile ≡ V4) × (default_options.compressed ≡ false)

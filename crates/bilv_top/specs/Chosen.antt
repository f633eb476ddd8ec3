-- The machines of forms of state texts.
use Rattle.std.specs.Prelude.{List, ℕ, ◌≡◌}
use Rattle.machine_spec.specs.Machine.{Machine}
use Rattle.machine_spec.specs.Bil.{Bank, XRegisters, RRegisters}
use Rattle.call_spec.specs.Calls.{Options}
use Rattle.bilv_spec.specs.Files.{machine_of}
use Rattle.start_value.specs.declared.layout.Layout.{Layout}
use Rattle.start_value.specs.declared.layout.Layout.TheVariants.{Rv32, Arm}

-- the letter of its registers
abbrev pub bank_in : Layout → Bank
bank_in (Rv32 compressed) = XRegisters
bank_in (Arm big profile) = RRegisters

-- the machine is that of a file by some options
abbrev pub IsMachineOf : (file : List ℕ) → Machine → Type 0
IsMachineOf file m = (o : Options) × (machine_of o file ≡ m)

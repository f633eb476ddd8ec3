-- The types of steps, as definitions see them.
use Rattle.std.specs.Prelude.{◌≡◌}
use Rattle.word_spec.specs.Memory as memory
use Rattle.word_spec.specs.State.{State}
use Rattle.machine_spec.specs.Machine as machine
use Rattle.machine_spec.specs.Machine.{Exception, EnvironmentCall, Breakpoint, SoftwareInterrupt, OddHalfword, UnalignedLoad, Outcome, Goes, Raises}
use Rattle.byte_mem.specs.declared.Endian.{Endian}
use Rattle.byte_mem.specs.declared.Endian.TheVariants.{Little, Big}
use Rattle.byte_mem.specs.declared.How.{How}
use Rattle.byte_mem.specs.declared.How.TheVariants.{Direct, DirectCall, Indirect, IndirectCall}
use Rattle.byte_mem.specs.declared.StepOut.{StepOut}
use Rattle.byte_mem.specs.declared.StepOut.TheVariants.{Next, Jump, Halfword, Trap, Align}

-- a byte order
abbrev pub endian_of : Endian → memory.Endian
endian_of Little = memory.Little
endian_of Big = memory.Big

-- how a jump is made
abbrev pub how_of : How → machine.How
how_of Direct = machine.Direct
how_of DirectCall = machine.DirectCall
how_of Indirect = machine.Indirect
how_of IndirectCall = machine.IndirectCall

-- the answer to an exception
abbrev pub exception_out : Exception → StepOut
exception_out EnvironmentCall = Trap
exception_out Breakpoint = Trap
exception_out SoftwareInterrupt = Trap
exception_out OddHalfword = Halfword
exception_out UnalignedLoad = Align

-- the answer to a row that goes on in a state
abbrev pub goes_out : machine.How → State → StepOut → Type 0
goes_out machine.On s out = out ≡ Next
goes_out machine.Direct s out = out ≡ Jump s.pc Direct
goes_out machine.DirectCall s out = out ≡ Jump s.pc DirectCall
goes_out machine.Indirect s out = out ≡ Jump s.pc Indirect
goes_out machine.IndirectCall s out = out ≡ Jump s.pc IndirectCall

-- The answer of a step that left the new state: the row's outcome. An exception leaves the state as it was.
abbrev pub IsStep : (old new : State) → StepOut → Outcome → Type 0
IsStep old new out (Goes how s) = (new ≡ s) × goes_out how s out
IsStep old new out (Raises e) = (new ≡ old) × (out ≡ exception_out e)

-- The state that is kept, as a machine's state.
use Rattle.std.specs.Prelude.{ℕ}
use Rattle.word_spec.specs.Memory.{memory_of}
use Rattle.word_spec.specs.State as machine
use Rattle.arm_step.specs.Parts.{flags_of}
use Rattle.arm_step.specs.RegisterFile.{registers_of}
use Rattle.arm_step.specs.declared.state.State.{State}

-- its state
abbrev pub state_of : State → machine.State
state_of s = record { pc = s.pc; regs = registers_of s.registers.words; flags = flags_of s.flags; mem = memory_of s.memory.entries }

-- how many bytes it can store without taking memory
abbrev pub spare_of : State → ℕ
spare_of s = s.memory.spare

-- The state that is kept, as a machine's state.
use Rattle.std.specs.Prelude.{ℕ}
use Rattle.word_spec.specs.Memory.{memory_of}
use Rattle.word_spec.specs.State as machine
use Rattle.rv_step.specs.RegisterFile.{registers_of}
use Rattle.rv_step.specs.declared.state.State.{State}

-- its state; it has no flags
abbrev pub state_of : State → machine.State
state_of s = record { pc = s.pc; regs = registers_of s.registers.words; flags = λ f. 0; mem = memory_of s.memory.entries }

-- how many bytes it can store without taking memory
abbrev pub spare_of : State → ℕ
spare_of s = s.memory.spare

-- What is kept is in range.
use Rattle.std.proofs.Common.{lit<}
use Rattle.word_spec.specs.State.{IsState}
use Rattle.rv_step.specs.States.{state_of}
use Rattle.rv_step.specs.declared.state.State.{State}

-- a state
pub in_range : (s : State) → IsState (state_of s)
in_range s = record { pc = s.pc_in_range; regs = s.registers.in_range; flags = λ f. lit< tt; mem = s.bytes_in_range }

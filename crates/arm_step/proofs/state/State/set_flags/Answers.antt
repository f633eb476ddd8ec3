use Rattle.std.proofs.Common.{ℕ, ap}
use Rattle.word_spec.specs.State.{State}
use Rattle.arm_step.specs.States.{state_of}
use Rattle.arm_step.proofs.ReadRegisters.{all_flags}
use Rattle.arm_step.proofs.state.State.set_flags.Goals as goal

pub returns-clause-state : goal.returns-clause-state
returns-clause-state c =
    let made : (ℕ → ℕ) → State = λ flags. record (state_of c.args.self.now) { flags = flags } in
    ap made (all_flags c.args.self.now.flags c.args.flags)

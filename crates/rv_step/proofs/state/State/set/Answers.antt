use Rattle.std.proofs.Common.{ℕ, ap}
use Rattle.word_spec.specs.State.{State}
use Rattle.word_spec.specs.Memory.{memory_of}
use Rattle.rv_step.proofs.state.State.set.Goals as goal

pub returns-clause-state : goal.returns-clause-state
returns-clause-state c =
    let made : (ℕ → ℕ) → State =
    λ regs. record { pc = c.args.self.now.pc; regs = regs; flags = λ f. 0; mem = memory_of c.args.self.now.memory.entries } in
    ap made c.write.ensures

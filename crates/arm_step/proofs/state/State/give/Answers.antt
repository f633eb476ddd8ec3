use Rattle.std.proofs.Common.{◌∙◌, ℕ, List, ap}
use Rattle.word_spec.specs.Memory.{memory_of}
use Rattle.word_spec.specs.State.{State}
use Rattle.arm_step.specs.Parts.{flags_of}
use Rattle.arm_step.specs.RegisterFile.{registers_of}
use Rattle.arm_step.proofs.state.State.give.Goals as goal

pub returns-clause-state : goal.returns-clause-state
returns-clause-state c =
    let made : List ℕ → (ℕ → ℕ) → State = λ words flags. record
    { pc = c.args.pc; regs = registers_of words; flags = flags; mem = memory_of c.args.self.now.memory.entries } in
    ap (λ words. made words (flags_of c.of-self-2.result)) c.of-self.ensures ∙ ap (made c.args.registers.now) c.of-self-2.ensures

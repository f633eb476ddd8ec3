use Rattle.std.proofs.Common.{◌∙◌, ℕ, ap}
use Rattle.word_spec.specs.Memory.{load}
use Rattle.word_spec.specs.State.{State}
use Rattle.byte_mem.specs.Views.{endian_of}
use Rattle.arm_step.specs.States.{state_of}
use Rattle.arm_step.proofs.RegisterLists.{one_loaded}
use Rattle.arm_step.proofs.blocks.load_one.Goals as goal

pub returns-then-number-lt15-clause-state : goal.returns-then-number-lt15-clause-state
returns-then-number-lt15-clause-state c =
    let s = state_of c.args.state.now in
    let made : (ℕ → ℕ) → State = λ regs. record s { regs = regs } in
    c.set.ensures.state
    ∙ ap made (one_loaded c.args.number c.new.result.number c.loaded-value.result (load (endian_of c.args.endian) 4 s.mem c.args.a) s.regs c.if-number-lt15.true
    c.new.ensures c.loaded-value.ensures.number)

use Rattle.std.proofs.Common.{◌∙◌, ℕ, ap, sym}
use Rattle.word_spec.specs.State.{State}
use Rattle.arm_step.specs.States.{state_of}
use Rattle.arm_step.proofs.Operands.{base_put}
use Rattle.arm_step.proofs.access.write_back.Goals as goal

pub returns-in-Some-clause-state : goal.returns-in-Some-clause-state
returns-in-Some-clause-state c = λ w h e l.
    let s = state_of c.args.state.now in
    let made : (ℕ → ℕ) → State = λ regs. record s { regs = regs } in
    c.set.ensures.state
    ∙ ap made (base_put w s c.in-Some.rn.number c.read-base.result c.moved.result c.args.offset (sym (c.writes_back.ensures w h.1) ∙ c.if-not-writes_back.false)
    (c.in-Some.ensures ∙ e) c.read-base.ensures.regs (c.moved.ensures w h.0))

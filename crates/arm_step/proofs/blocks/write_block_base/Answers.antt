use Rattle.std.proofs.Common.{◌∙◌, ℕ, ap, sym}
use Rattle.word_spec.specs.State.{State}
use Rattle.arm_step.specs.States.{state_of}
use Rattle.arm_step.proofs.RegisterLists.{block_put, block_kept}
use Rattle.arm_step.proofs.blocks.write_block_base.Goals as goal

pub returns-else-fields-clause-state : goal.returns-else-fields-clause-state
returns-else-fields-clause-state c = λ w x.
    let s = state_of c.args.state.now in
    let made : (ℕ → ℕ) → State = λ regs. record s { regs = regs } in
    ap made (block_kept w s (sym x.writes_back ∙ c.if-fields.false))

pub returns-then-fields-clause-state : goal.returns-then-fields-clause-state
returns-then-fields-clause-state c = λ w x.
    let s = state_of c.args.state.now in
    let made : (ℕ → ℕ) → State = λ regs. record s { regs = regs } in
    c.set.ensures.state
    ∙ ap made (block_put w s c.args.fields.rn.number c.read-base.result c.moved.result c.listed.result (sym x.writes_back ∙ c.if-fields.true) x.rn
    c.read-base.ensures.regs (c.listed.ensures.listed w x) (c.moved.ensures w x.is_up))

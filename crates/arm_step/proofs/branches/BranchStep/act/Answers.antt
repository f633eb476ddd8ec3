use Rattle.std.proofs.Common.{◌∙◌, sym}
use Rattle.arm_step.specs.States.{state_of}
use Rattle.arm_step.proofs.WholeRows.{links, jumps}
use Rattle.arm_step.proofs.branches.BranchStep.act.Goals as goal

pub returns-then-fields-clause-step : goal.returns-then-fields-clause-step
returns-then-fields-clause-step c = rw c.requires.holds (
    links c.args.self.word (state_of c.args.state.now) (state_of c.set.new.self)
    (state_of c.jump.new.self) c.jump.result c.pc-at.result c.target-to.result c.new.result.number
    (sym c.fields.ensures.is_linked ∙ c.if-fields.true) c.pc-at.ensures c.target-to.ensures c.new.ensures c.set.ensures.state c.jump.ensures.state
    c.jump.ensures.out
    )

pub returns-else-fields-clause-step : goal.returns-else-fields-clause-step
returns-else-fields-clause-step c = rw c.requires.holds (
    let j = c.jump-else-fields in
    jumps c.args.self.word (state_of c.args.state.now) (state_of j.new.self) j.result c.pc-at.result c.target-to.result
    (sym c.fields.ensures.is_linked ∙ c.if-fields.false) c.pc-at.ensures c.target-to.ensures j.ensures.state j.ensures.out
    )

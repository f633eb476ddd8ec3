use Rattle.std.proofs.Common.{◌∙◌, sym}
use Rattle.arm_step.proofs.blocks.BlockStep.act.Goals as goal

pub returns-else-fields-clause-step : goal.returns-else-fields-clause-step
returns-else-fields-clause-step c = rw c.requires.holds (
    let x = c.fields-fields.ensures in
    rw (sym x.is_load ∙ c.if-fields.false) (c.store_block.ensures.step c.args.self.word x)
    )

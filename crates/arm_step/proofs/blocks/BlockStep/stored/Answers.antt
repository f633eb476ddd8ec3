use Rattle.std.proofs.Common.{◌∙◌, sym}
use Rattle.machine_spec.specs.Arm.{holds, is_load}
use Rattle.arm_step.specs.States.{state_of}
use Rattle.arm_step.proofs.WholeRows.{block_stored}
use Rattle.arm_step.proofs.blocks.BlockStep.stored.Goals as goal

pub returns : goal.returns
returns c = λ e.
    let w = c.args.self.word in
    let s = state_of c.args.state.now in
    let x = c.fields-fields.ensures in
    block_stored w s c.block_start.result c.listed.result c.requires (sym x.is_load ∙ c.if-fields.false) (c.block_start.ensures w x) (c.listed.ensures.listed w x)

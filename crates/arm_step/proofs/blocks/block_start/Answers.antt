use Rattle.std.proofs.Common.{◌∙◌, ap}
use Rattle.machine_spec.specs.Arm.{reg}
use Rattle.arm_step.specs.States.{state_of}
use Rattle.arm_step.proofs.RegisterLists.{starts}
use Rattle.arm_step.proofs.blocks.block_start.Goals as goal

pub returns : goal.returns
returns c = λ w x.
    let s = state_of c.args.state.now in
    starts w s c.args.fields.is_up c.args.fields.is_before c.read-base.result c.first_offset-offset.result c.moved.result c.aligned.result c.listed.result
    x.is_up x.is_before (c.listed.ensures.listed w x) (c.read-base.ensures.reg ∙ ap (reg s) x.rn) c.first_offset-offset.ensures
    (c.moved.ensures w x.is_up) c.aligned.ensures

use Rattle.std.proofs.Common.{refl}
use Rattle.byte_mem.specs.Views.{endian_of}
use Rattle.arm_lift_blocks.proofs.Liftings.{returned}
use Rattle.arm_lift_blocks.proofs.lifting.lift_block.Goals as goal

pub returns : goal.returns
returns c =
    returned (endian_of c.args.order) c.args.insn.now.word c.args.at 16 c.condition-condition.result c.fields.result _ c.conditional.result
    c.fields.ensures c.condition-condition.ensures refl c.in_ok-list.ensures c.conditional.ensures

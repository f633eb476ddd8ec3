use Rattle.machine_spec.specs.Arm.{listed_from}
use Rattle.byte_mem.specs.Views.{endian_of}
use Rattle.arm_lift_blocks.proofs.Liftings.{chosen}
use Rattle.arm_lift_blocks.proofs.lifting.transferring.Goals as goal

pub returns-then-fields : goal.returns-then-fields
returns-then-fields c =
    let x = c.args.fields in
    chosen x.is_load (endian_of c.args.order) x.writes_back x.is_up x.is_before x.rn.number c.args.at (listed_from x.list.bits 0 c.args.«end») c.loading.result
    c.if-fields.true c.loading.ensures

use Rattle.arm_lift.specs.Orders.{order_of}
use Rattle.arm_lift.proofs.machine.ArmMachine.flags.Goals as goal

pub returns : goal.returns
returns g c = c.flag_use.ensures (order_of g.row.BIG)

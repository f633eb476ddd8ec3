use Rattle.std.proofs.Common.{◌≡◌, ◌-◌, None}
use Rattle.machine_spec.specs.Arm.{listed_from}
use Rattle.arm_lift_blocks.specs.Lifted as lifts
use Rattle.arm_lift_blocks.proofs.transfers.place_of.Given as goal

-- from here on the place is what it is from the first on
abbrev pub invariant-loop-number : goal.invariant-loop-number
invariant-loop-number l =
    lifts.place_of l.register.number l.distance (listed_from l.registers.bits l.number (l.end - l.number)) l.found
    ≡ lifts.place_of l.register.number l.first (listed_from l.registers.bits 0 l.end) None

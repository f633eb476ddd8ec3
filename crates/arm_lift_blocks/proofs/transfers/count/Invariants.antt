use Rattle.std.proofs.Common.{◌≡◌, ◌-◌, ◌+◌, ◌≤◌, length}
use Rattle.machine_spec.specs.Arm.{listed_from}
use Rattle.arm_lift_blocks.proofs.transfers.count.Given as goal

-- those that are counted and those that are left are all
abbrev pub invariant-loop-register : goal.invariant-loop-register
invariant-loop-register l =
    (l.count + length (listed_from l.registers.bits l.register (l.end - l.register)) ≡ length (listed_from l.registers.bits 0 l.end)) × (l.count ≤ l.register)

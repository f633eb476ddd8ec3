use Rattle.std.proofs.Common.{◌≡◌, ◌+◌, ◌-◌, ◌≤◌, length}
use Rattle.machine_spec.specs.Arm.{listed_from}
use Rattle.arm_step.proofs.blocks.count.Given as goal

abbrev pub invariant-loop-register : goal.invariant-loop-register
invariant-loop-register l = (l.count + length (listed_from l.list.bits l.register (l.end - l.register)) ≡ length (listed_from l.list.bits 0 l.end)) ×
    (l.count ≤ l.register)

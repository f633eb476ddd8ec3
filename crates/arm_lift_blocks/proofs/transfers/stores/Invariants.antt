use Rattle.std.proofs.Common.{◌≡◌, ◌-◌}
use Rattle.machine_spec.specs.Arm.{listed_from}
use Rattle.machine_spec.specs.Bil.{Statements}
use Rattle.byte_mem.specs.Views.{endian_of}
use Rattle.arm_lift_alu.specs.Before.{before}
use Rattle.arm_lift_blocks.specs.Lifted as lifts
use Rattle.arm_lift_blocks.proofs.transfers.stores.Given as goal

-- with the stores that are left, the list is the whole
abbrev pub invariant-loop-register : goal.invariant-loop-register
invariant-loop-register l =
    let e = endian_of l.order in
    (rest : Statements) → before l.list.items (lifts.stores e l.base.number l.at l.distance (listed_from l.registers.bits l.register (l.end - l.register)) rest)
    ≡ lifts.stores e l.base.number l.at l.first (listed_from l.registers.bits 0 l.end) rest

use Rattle.std.proofs.Common.{◌≡◌, ◌-◌, ◌+◌, ◌*◌, ◌≤◌}
use Rattle.machine_spec.specs.Arm as rows
use Rattle.byte_mem.specs.Views.{endian_of}
use Rattle.arm_step.specs.States.{state_of, spare_of}
use Rattle.arm_step.proofs.blocks.store_all.Given as goal

-- what is left to store gives what all gives
abbrev pub invariant-loop-number : goal.invariant-loop-number
invariant-loop-number l =
    let s = state_of l.state in
    let old = state_of l.initial.state in
    let e = endian_of l.endian in
    (s ≡ record old { mem = s.mem })
    × (rows.store_all e old l.choice l.a (rows.listed_from l.list.bits l.number (l.end - l.number)) s.mem
    ≡ rows.store_all e old l.choice l.first (rows.listed_from l.list.bits 0 l.end) old.mem)
    × (spare_of l.initial.state ≤ spare_of l.state + 4 * l.number)

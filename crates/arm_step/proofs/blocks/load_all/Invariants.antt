use Rattle.std.proofs.Common.{◌≡◌, ◌-◌}
use Rattle.machine_spec.specs.Arm as rows
use Rattle.byte_mem.specs.Views.{endian_of}
use Rattle.arm_step.specs.States.{state_of, spare_of}
use Rattle.arm_step.proofs.blocks.load_all.Given as goal

-- what is left to load gives what all gives
abbrev pub invariant-loop-number : goal.invariant-loop-number
invariant-loop-number l =
    let s = state_of l.state in
    let old = state_of l.initial.state in
    let e = endian_of l.endian in
    (s ≡ record old { regs = s.regs })
    × (rows.load_all e old.mem l.a (rows.listed_from l.list.bits l.number (l.end - l.number)) s.regs
    ≡ rows.load_all e old.mem l.first (rows.listed_from l.list.bits 0 l.end) old.regs)
    × (spare_of l.state ≡ spare_of l.initial.state)

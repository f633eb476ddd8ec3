use Rattle.std.proofs.Common.{◌≡◌, ◌-◌}
use Rattle.machine_spec.specs.Arm.{first_of, listed_from}
use Rattle.arm_decode.proofs.blocks.first_listed.Given as goal

abbrev pub invariant-loop-register : goal.invariant-loop-register
invariant-loop-register l = first_of (listed_from l.word 0 l.end) ≡ first_of (listed_from l.word l.register (l.end - l.register))

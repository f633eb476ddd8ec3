use Rattle.std.proofs.Common.{◌≡◌, ◌++◌}
use Rattle.program_points.specs.Tables.{stack_at}
use Rattle.frame_verdict.proofs.segments.stack_addresses.Given as goal

abbrev pub invariant-loop-upper : goal.invariant-loop-upper
invariant-loop-upper l = l.found.items ++ stack_at l.frames l.upper ≡ stack_at l.frames l.number

abbrev pub decreases-loop-upper : goal.decreases-loop-upper
decreases-loop-upper l = l.upper

use Rattle.std.proofs.Common.{length, ◌-◌, ◌≡◌, drop}
use Rattle.pair_verdict.specs.ExitLines.{first_apart}
use Rattle.pair_verdict.proofs.exits.first_apart.Given as goal

abbrev pub invariant-loop-i : goal.invariant-loop-i
invariant-loop-i l = first_apart l.first l.second ≡ first_apart (drop l.i l.first) (drop l.i l.second)

abbrev pub decreases-loop-i : goal.decreases-loop-i
decreases-loop-i l = length l.first - l.i

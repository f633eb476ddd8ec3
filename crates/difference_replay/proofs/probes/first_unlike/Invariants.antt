use Rattle.std.proofs.Common.{◌≡◌, drop}
use Rattle.difference_replay.specs.Probes.{first_unlike}
use Rattle.difference_replay.proofs.probes.first_unlike.Given as goal

abbrev pub invariant-loop-i : goal.invariant-loop-i
invariant-loop-i l = first_unlike l.probes l.first l.second ≡ first_unlike (drop l.i l.probes) (drop l.i l.first) (drop l.i l.second)

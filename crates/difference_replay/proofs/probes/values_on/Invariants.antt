use Rattle.std.proofs.Common.{◌≡◌, ◌++◌, drop}
use Rattle.difference_replay.specs.Probes.{values_on}
use Rattle.difference_replay.proofs.probes.values_on.Given as goal

abbrev pub invariant-loop-probe : goal.invariant-loop-probe
invariant-loop-probe g l =
    l.out.items ++ values_on l.half (g.V.View.view l.state) (drop l.probe-index l.probes) ≡ values_on l.half (g.V.View.view l.state) l.probes

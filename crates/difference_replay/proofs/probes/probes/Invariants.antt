use Rattle.std.proofs.Common.{◌≡◌, ◌++◌, drop}
use Rattle.difference_replay.specs.Probes.{all_probes}
use Rattle.difference_replay.proofs.probes.probes.Given as goal

abbrev pub invariant-loop-link : goal.invariant-loop-link
invariant-loop-link l = l.out.items ++ all_probes l.at (drop l.link-index l.links) ≡ all_probes l.at l.links

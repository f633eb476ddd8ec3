use Rattle.std.proofs.Common.{◌≡◌, ◌+◌, ◌-◌, ◌++◌, map}
use Rattle.word_spec.specs.RowFiles.{from_to}
use Rattle.difference_replay.specs.Probes.{byte_probe, byte_probes}
use Rattle.difference_replay.proofs.probes.push_bytes.Given as goal

abbrev pub invariant-loop-at : goal.invariant-loop-at
invariant-loop-at l =
    l.out.items ++ map (byte_probe l.line) (from_to l.at (l.high + 1 - l.at)) ≡ l.initial.out.items ++ byte_probes l.line l.low l.high

use Rattle.std.proofs.Common.{◌≡◌, ◌+◌, ◌-◌, ◌++◌}
use Rattle.word_spec.specs.RowFiles.{from_to}
use Rattle.pair_spec.specs.Links.{addresses}
use Rattle.pair_verdict.specs.StateWords.{lined_bytes}
use Rattle.pair_verdict.proofs.exits.push_bytes.Given as goal

abbrev pub invariant-loop-at : goal.invariant-loop-at
invariant-loop-at g l =
    l.words.items ++ lined_bytes l.line (g.S.View.view l.state) (from_to l.at (l.high + 1 - l.at))
    ≡ l.initial.words.items ++ lined_bytes l.line (g.S.View.view l.state) (addresses l.low l.high)

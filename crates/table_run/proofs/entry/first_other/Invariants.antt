use Rattle.std.proofs.Common.{◌≤◌, ◌-◌}
use Rattle.table_run.specs.Known.{HasBytesTo}
use Rattle.table_run.proofs.entry.first_other.Given as goal

abbrev pub invariant-loop-at : goal.invariant-loop-at
invariant-loop-at g l = record {
  low : l.part.first ≤ l.at;
  high : l.at ≤ l.part.last;
  same : HasBytesTo (g.V.View.view l.state).mem l.part l.at;
}

abbrev pub decreases-loop-at : goal.decreases-loop-at
decreases-loop-at g l = l.part.last - l.at

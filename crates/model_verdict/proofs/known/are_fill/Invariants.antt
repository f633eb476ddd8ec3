use Rattle.std.proofs.Common.{◌≤◌, ◌-◌}
use Rattle.model_verdict.specs.Readings.{AreFill}
use Rattle.model_verdict.proofs.known.are_fill.Given as goal

abbrev pub invariant-loop-place : goal.invariant-loop-place
invariant-loop-place l = record {
  from : l.low ≤ l.place;
  most : l.place ≤ l.high;
  fills : AreFill l.bytes l.fill l.low l.place;
}

abbrev pub decreases-loop-place : goal.decreases-loop-place
decreases-loop-place l = l.high - l.place

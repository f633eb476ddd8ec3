use Rattle.std.proofs.Common.{◌≡◌, ◌≤◌, ◌+◌, ◌-◌, drop, length}
use Rattle.model_text.specs.Symbols.{mark_in}
use Rattle.model_text.proofs.symbol.mark_in.Given as goal

abbrev pub invariant-loop-place : goal.invariant-loop-place
invariant-loop-place l = record {
  within : l.place ≤ length l.name;
  mark : l.place + mark_in (drop l.place l.name) ≡ mark_in l.name;
}

abbrev pub decreases-loop-place : goal.decreases-loop-place
decreases-loop-place l = length l.name - l.place

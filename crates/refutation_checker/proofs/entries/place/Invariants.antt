use Rattle.std.proofs.Common.{◌-◌, ℕ, ◌<◌, ◌≤◌, length, get_or}
use Rattle.refutation_checker.specs.Entries.{ids_of}
use Rattle.refutation_checker.proofs.entries.place.Given as goal

abbrev pub invariant-loop-low : goal.invariant-loop-low
invariant-loop-low l = record {
  order : l.low ≤ l.high;
  within : l.high ≤ length l.entries;
  below : (k : ℕ) → k < l.low → get_or (ids_of l.entries) k 0 < l.id;
  above : (k : ℕ) → l.high ≤ k → k < length l.entries → l.id < get_or (ids_of l.entries) k 0;
}

abbrev pub decreases-loop-low : goal.decreases-loop-low
decreases-loop-low l = l.high - l.low

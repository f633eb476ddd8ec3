use Rattle.std.proofs.Common.{ℕ, ◌-◌, ◌≤◌, ◌<◌, length, get_or}
use Rattle.table_run.proofs.choices.place.Given as goal

abbrev pub invariant-loop-low : goal.invariant-loop-low
invariant-loop-low l = record {
  ordered : l.low ≤ l.high;
  within : l.high ≤ length l.choices;
  below : (i : ℕ) (d : ℕ × ℕ) → i < l.low → (get_or l.choices i d).0 < l.step;
  from : (i : ℕ) (d : ℕ × ℕ) → l.high ≤ i → i < length l.choices → l.step ≤ (get_or l.choices i d).0;
}

abbrev pub decreases-loop-low : goal.decreases-loop-low
decreases-loop-low l = l.high - l.low

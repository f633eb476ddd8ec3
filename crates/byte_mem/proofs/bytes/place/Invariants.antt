use Rattle.std.proofs.Common.{ℕ, ◌-◌, ◌≤◌, ◌<◌, length, get_or}
use Rattle.byte_mem.specs.Gaps.{entries_of}
use Rattle.byte_mem.proofs.bytes.place.Given as goal

abbrev pub invariant-loop-low : goal.invariant-loop-low
invariant-loop-low l = record {
  ordered : l.low ≤ l.high;
  within : l.high ≤ length (entries_of l.g);
  below : (i : ℕ) (d : ℕ × ℕ) → i < l.low → (get_or (entries_of l.g) i d).0 < l.address;
  from : (i : ℕ) (d : ℕ × ℕ) → l.high ≤ i → i < length (entries_of l.g) → l.address ≤ (get_or (entries_of l.g) i d).0;
}

abbrev pub decreases-loop-low : goal.decreases-loop-low
decreases-loop-low l = l.high - l.low

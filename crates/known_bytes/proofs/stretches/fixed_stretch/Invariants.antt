use Rattle.std.proofs.Common.{◌≡◌, ℕ, ◌≤◌, ◌<◌, get_or, true}
use Rattle.notes_value.specs.declared.notes.FixedRange.{FixedRange}
use Rattle.known_bytes.specs.Known.{IsHeld}
use Rattle.known_bytes.proofs.stretches.fixed_stretch.Given as goal

abbrev pub invariant-loop-range : goal.invariant-loop-range
invariant-loop-range l = record {
  high : l.a ≤ l.s.high;
  free : l.a ≤ l.s.free;
  outside : (k : ℕ) (d : FixedRange) → k < l.range-index → l.a < (get_or l.ranges k d).low → l.s.free < (get_or l.ranges k d).low;
  passed : (k : ℕ) (d : FixedRange) → k < l.range-index → (get_or l.ranges k d).low ≤ l.a → l.a ≤ (get_or l.ranges k d).high → l.s.inside ≡ true;
  held : l.s.inside ≡ true → IsHeld l.ranges l.a l.s.high;
}

use Rattle.std.proofs.Common.{◌≡◌, ℕ, ◌≤◌, ◌<◌, ◌-◌, ◌^◌, map, false}
use Rattle.notes_value.specs.NoteViews.{fixed_of}
use Rattle.known_bytes.specs.Known.{is_known}
use Rattle.known_bytes.proofs.stretches.first_given.Given as goal

abbrev pub invariant-loop-part : goal.invariant-loop-part
invariant-loop-part l = record {
  behind : l.a ≤ l.at;
  gap : (x : ℕ) → l.a ≤ x → x < l.at → is_known l.image (map fixed_of l.ranges) x ≡ false;
}

abbrev pub decreases-loop-part : goal.decreases-loop-part
decreases-loop-part l = 2 ^ 32 - l.at

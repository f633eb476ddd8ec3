use Rattle.std.proofs.Common.{◌≡◌, ℕ, ◌≤◌, ◌-◌, ◌^◌}
use Rattle.machine_spec.specs.Machine.{Machine}
use Rattle.bilv_spec.specs.Files.{program_of}
use Rattle.bilv_spec.specs.Points.{is_known_at}
use Rattle.notes_value.specs.NoteViews.{notes_of}
use Rattle.known_bytes.proofs.stretches.known_stretch.Given as goal

abbrev pub invariant-loop-seen : goal.invariant-loop-seen
invariant-loop-seen l = record {
  last : l.at ≤ l.seen.last;
  same : (m : Machine) (entry x : ℕ) → l.at ≤ x → x ≤ l.seen.last → is_known_at (program_of m l.image (notes_of l.notes) entry) x ≡ l.seen.known;
}

abbrev pub decreases-loop-seen : goal.decreases-loop-seen
decreases-loop-seen l = 2 ^ 32 - l.seen.last

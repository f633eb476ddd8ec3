use Rattle.std.proofs.Common.{◌≡◌, ℕ, ◌+◌, drop}
use Rattle.bilv_spec.specs.Files.{program_of}
use Rattle.machine_spec.specs.Machine.{Machine}
use Rattle.bilv_spec.specs.Points.{is_known_at}
use Rattle.machine_spec.specs.StateText.{Told}
use Rattle.state_text.specs.Readings.{told_but}
use Rattle.notes_value.specs.NoteViews.{notes_of}
use Rattle.report_replay.specs.Readings.{AreAlike}
use Rattle.report_replay.proofs.reading.known_line.Given as goal

abbrev pub invariant-loop-i : goal.invariant-loop-i
invariant-loop-i l = record {
  alike : AreAlike l.image l.notes l.seen;
  same :
      (m : Machine) (entry : ℕ) (told : Told) →
      told_but (is_known_at (program_of m l.image (notes_of l.notes) entry)) l.first l.bytes told
      ≡ told_but (is_known_at (program_of m l.image (notes_of l.notes) entry)) (l.first + l.i) (drop l.i l.bytes) told;
}

-- What is read of the text of a report, as definitions see it.
use Rattle.std.specs.Prelude.{ℕ, ◌≡◌, ◌≤◌, List}
use Rattle.bilv_spec.specs.Files.{program_of}
use Rattle.machine_spec.specs.Machine.{Machine}
use Rattle.bilv_spec.specs.Points.{is_known_at}
use Rattle.machine_spec.specs.StateText as texts
use Rattle.state_text.specs.Starts.{text_of}
use Rattle.state_text.specs.Readings.{fault_of}
use Rattle.notes_value.specs.NoteViews.{notes_of}
use Rattle.notes_value.specs.declared.notes.Notes.{Notes}
use Rattle.report_replay.specs.declared.reading.Alike.{Alike}
use Rattle.report_replay.specs.declared.reading.Reading.{Reading}
use Rattle.report_replay.specs.declared.reading.Reading.TheVariants.{State, Refused}

-- what is told
abbrev pub told_of : Reading → texts.Told
told_of (State text) = texts.StateIs (text_of text)
told_of (Refused line kind) = texts.StateRefused line (fault_of kind)

-- each of the addresses is known, or none is
abbrev pub AreAlike : List ℕ → Notes → Alike → Type 0
AreAlike file notes seen =
    (m : Machine) (entry x : ℕ) → seen.first ≤ x → x ≤ seen.stretch.last → is_known_at (program_of m file (notes_of notes) entry) x ≡ seen.stretch.known

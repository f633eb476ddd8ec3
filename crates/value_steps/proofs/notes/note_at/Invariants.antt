use Rattle.std.proofs.Common.{◌≡◌, drop, map}
use Rattle.trace_texts_spec.specs.ValueLines.{note_at}
use Rattle.notes_value.specs.NoteViews.{note_line_of}
use Rattle.value_steps.proofs.notes.note_at.Given as goal

abbrev pub invariant-loop-note : goal.invariant-loop-note
invariant-loop-note l = note_at l.line (map note_line_of l.lines) ≡ note_at l.line (map note_line_of (drop l.note-index l.lines))

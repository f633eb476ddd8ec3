use Rattle.std.proofs.Common.{◌≡◌, drop, map}
use Rattle.trace_texts_spec.specs.ValueLines.{assert_at}
use Rattle.notes_value.specs.NoteViews.{assert_of}
use Rattle.value_steps.proofs.notes.assert_at.Given as goal

abbrev pub invariant-loop-note : goal.invariant-loop-note
invariant-loop-note l = assert_at l.line (map assert_of l.lines) ≡ assert_at l.line (map assert_of (drop l.note-index l.lines))

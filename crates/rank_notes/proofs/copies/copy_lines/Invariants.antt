use Rattle.std.proofs.Common.{◌≡◌, ◌++◌, map, drop}
use Rattle.notes_value.specs.NoteViews.{note_line_of}
use Rattle.rank_notes.proofs.copies.copy_lines.Given as goal

abbrev pub invariant-loop-line : goal.invariant-loop-line
invariant-loop-line l = map note_line_of (l.copies.items ++ drop l.line-index l.lines) ≡ map note_line_of l.lines

use Rattle.std.proofs.Common.{map, take}
use Rattle.notes_value.specs.NoteViews.{note_line_of}
use Rattle.passify.specs.Calls.{AreGiven}
use Rattle.passify.proofs.calls.gives.Given as goal

abbrev pub invariant-loop-i : goal.invariant-loop-i
invariant-loop-i l = AreGiven l.fn.dag l.dag l.fn.rest.0 l.left.0 l.big l.next l.now (map note_line_of (take l.i l.lines))

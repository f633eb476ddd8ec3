use Rattle.std.proofs.Common.{drop, map}
use Rattle.notes_value.specs.NoteViews.{note_line_of}
use Rattle.passify.specs.Calls.{NeedsTried}
use Rattle.passify.proofs.calls.needs.Given as goal

abbrev pub invariant-loop-i : goal.invariant-loop-i
invariant-loop-i l =
    NeedsTried l.fn.dag l.dag l.fn.sweep l.sweep l.fn.rest.0 l.left.0 l.big l.now (map note_line_of l.lines) (map note_line_of (drop l.i l.lines))

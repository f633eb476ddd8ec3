use Rattle.std.proofs.Common.{take}
use Rattle.std.specs.Prelude.{map}
use Rattle.notes_value.specs.NoteViews.{note_line_of}
use Rattle.unroller.specs.LineCosts.{AreLineCosts}
use Rattle.unroller.proofs.lines.lines_cost.Given as goal

abbrev pub invariant-loop-line : goal.invariant-loop-line
invariant-loop-line l = AreLineCosts l.total (map (λ x. x.says) (map note_line_of (take l.line-index l.lines)))

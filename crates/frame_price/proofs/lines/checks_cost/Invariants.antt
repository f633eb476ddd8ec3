use Rattle.std.proofs.Common.{take}
use Rattle.std.specs.Prelude.{map}
use Rattle.notes_value.specs.NoteViews.{assert_of}
use Rattle.frame_price.specs.Evaluated.{check_of, evaluated_lines}
use Rattle.unroller.specs.LineCosts.{AreLineCosts}
use Rattle.frame_price.proofs.lines.checks_cost.Given as goal

abbrev pub invariant-loop-place : goal.invariant-loop-place
invariant-loop-place l =
    AreLineCosts l.total (evaluated_lines l.chosen (map (check_of (map assert_of l.asserts) l.invariants) (take l.place-index l.places)))

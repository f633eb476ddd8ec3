use Rattle.std.proofs.Common.{take}
use Rattle.std.specs.Prelude.{map}
use Rattle.std.specs.List.{flat_map}
use Rattle.notes_value.specs.NoteViews.{assert_of}
use Rattle.question_form.specs.Views.{assert_exit}
use Rattle.walk_spec.specs.Prices.{line_of}
use Rattle.unroller.specs.LineCosts.{AreLineCosts}
use Rattle.unroller.proofs.lines.asserts_cost.Given as goal

abbrev pub invariant-loop-place : goal.invariant-loop-place
invariant-loop-place l = AreLineCosts l.total (flat_map line_of (map (assert_exit (map assert_of l.asserts)) (take l.place-index l.places)))

use Rattle.smtlib_print.specs.Orders.{points_by}
use Rattle.smtlib_print.proofs.Placing.{ArePlacedTo}
use Rattle.smtlib_print.proofs.numbering.all_placed.Given as goal

abbrev pub invariant-loop-place : goal.invariant-loop-place
invariant-loop-place l = ArePlacedTo (points_by l.unrolled l.steps l.roots) l.unrolled.frames.items l.place l.found.items

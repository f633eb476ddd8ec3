use Rattle.smtlib_print.proofs.Depths.{AreDepthsTo}
use Rattle.smtlib_print.proofs.ordering.all_depths.Given as goal

abbrev pub invariant-loop-place : goal.invariant-loop-place
invariant-loop-place l = AreDepthsTo l.frames l.place l.found.items

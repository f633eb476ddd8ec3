use Rattle.weakest_pre.specs.Copies.{AreMarkedFrom}
use Rattle.weakest_pre.proofs.copies.mark_reached.Given as goal

abbrev pub invariant-loop-place : goal.invariant-loop-place
invariant-loop-place l = AreMarkedFrom l.source l.roots l.place l.marks

abbrev pub decreases-loop-place : goal.decreases-loop-place
decreases-loop-place l = l.place

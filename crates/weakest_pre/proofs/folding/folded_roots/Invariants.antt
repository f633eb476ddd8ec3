use Rattle.weakest_pre.specs.Folded.{IsMetBy}
use Rattle.weakest_pre.proofs.FoldedCopies.{IsFolding}
use Rattle.weakest_pre.proofs.folding.folded_roots.Given as goal

abbrev pub invariant-loop-place : goal.invariant-loop-place
invariant-loop-place l = IsFolding (IsMetBy l.facts) l.source l.fn.dag l.dag l.marks.items l.copies.items l.place

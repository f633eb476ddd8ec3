use Rattle.weakest_pre.proofs.Copying.{IsCopying}
use Rattle.weakest_pre.proofs.copies.copied.Given as goal

abbrev pub invariant-loop-place : goal.invariant-loop-place
invariant-loop-place l = IsCopying l.source l.fn.dag l.dag l.marks.items l.copies.items l.place

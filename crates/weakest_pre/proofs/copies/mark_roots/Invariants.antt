use Rattle.weakest_pre.specs.Copies.{AreRootsMarked}
use Rattle.weakest_pre.proofs.copies.mark_roots.Given as goal

abbrev pub invariant-loop-k : goal.invariant-loop-k
invariant-loop-k l = AreRootsMarked l.roots l.k l.marks

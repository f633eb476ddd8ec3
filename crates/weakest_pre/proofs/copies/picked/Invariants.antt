use Rattle.weakest_pre.specs.Copies.{ArePicked}
use Rattle.weakest_pre.proofs.copies.picked.Given as goal

abbrev pub invariant-loop-k : goal.invariant-loop-k
invariant-loop-k l = ArePicked l.copies l.roots l.k l.terms.items

use Rattle.passify.specs.Planted.{ArePlanted}
use Rattle.passify.proofs.roots.begin.Given as goal

abbrev pub invariant-loop-root : goal.invariant-loop-root
invariant-loop-root l = ArePlanted l.unrolled l.root l.dag l.sweep l.head l.yes.0

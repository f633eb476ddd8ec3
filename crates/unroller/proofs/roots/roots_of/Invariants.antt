use Rattle.std.proofs.Common.{}
use Rattle.unroller.specs.Roots.{AreRoots}
use Rattle.unroller.proofs.roots.roots_of.Given as goal

abbrev pub invariant-loop-number : goal.invariant-loop-number
invariant-loop-number l = AreRoots l.segments l.keys l.asserts l.entry l.number l.found.items

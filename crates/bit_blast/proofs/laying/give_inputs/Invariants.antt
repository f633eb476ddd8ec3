use Rattle.bit_blast.proofs.GivenInputs.{AreNumberedTo}
use Rattle.bit_blast.proofs.laying.give_inputs.Given as goal

abbrev pub invariant-loop-i : goal.invariant-loop-i
invariant-loop-i l = AreNumberedTo l.set l.from l.i l.first l.width l.places.items l.behind

use Rattle.term_names.specs.Choices.{places}
use Rattle.term_names.specs.Chosen.{ArePartFlags}
use Rattle.term_names.proofs.names.part_flags.Given as goal

abbrev pub invariant-loop-i : goal.invariant-loop-i
invariant-loop-i l = ArePartFlags l.fn.dag l.dag l.part l.i (places l.terms.items)

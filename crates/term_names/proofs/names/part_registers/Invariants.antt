use Rattle.term_names.specs.Choices.{places}
use Rattle.term_names.specs.Chosen.{ArePartRegisters}
use Rattle.term_names.proofs.names.part_registers.Given as goal

abbrev pub invariant-loop-i : goal.invariant-loop-i
invariant-loop-i l = ArePartRegisters l.fn.dag l.dag l.part l.first l.i (places l.terms.items)

use Rattle.term_names.specs.Choices.{places}
use Rattle.term_names.specs.Gifts.{AreGiven}
use Rattle.term_names.proofs.gifts.all_given.Given as goal

abbrev pub invariant-loop-i : goal.invariant-loop-i
invariant-loop-i l = AreGiven l.fn.dag l.dag l.flag l.part l.set l.first l.i (places l.before) (places l.terms.items)

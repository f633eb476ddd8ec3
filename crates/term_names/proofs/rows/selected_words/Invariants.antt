use Rattle.std.proofs.Common.{take}
use Rattle.term_names.specs.Choices.{AreChosen, places}
use Rattle.term_names.proofs.rows.selected_words.Given as goal

abbrev pub invariant-loop-i : goal.invariant-loop-i
invariant-loop-i l = AreChosen l.fn.dag l.dag l.width l.condition.0 (places (take l.i l.when_true)) (places (take l.i l.when_false)) (places l.terms.items)

use Rattle.term_names.proofs.Choices.{chosen_same, chosen_made}
use Rattle.term_names.proofs.rows.selected_word.Goals as goal

pub returns-then-when_true-when_false : goal.returns-then-when_true-when_false
returns-then-when_true-when_false c = chosen_same _ _ _ _ _ c.if-when_true-when_false.true c.requires.when_true

pub returns : goal.returns
returns c = chosen_made _ _ _ _ _ _ _ c.if-when_true-when_false.false c.in_ok-term.ensures

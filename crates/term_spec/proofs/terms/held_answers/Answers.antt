use Rattle.term_spec.proofs.HeldAnswers.{held_answers}
use Rattle.term_spec.proofs.terms.held_answers.Goals as goal

pub returns : goal.returns
returns c = held_answers

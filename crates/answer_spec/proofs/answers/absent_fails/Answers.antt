use Rattle.answer_spec.proofs.AnswersOnce.{absent_fails}
use Rattle.answer_spec.proofs.answers.absent_fails.Goals as goal

pub returns : goal.returns
returns c = absent_fails

use Rattle.answer_spec.proofs.AnswersOnce.{points_come_first}
use Rattle.answer_spec.proofs.answers.points_come_first.Goals as goal

pub returns : goal.returns
returns c = points_come_first

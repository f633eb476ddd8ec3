use Rattle.bilv_spec.proofs.Deciding.{questions_decide}
use Rattle.bilv_spec.proofs.questions.questions_decide.Goals as goal

pub returns : goal.returns
returns c = questions_decide

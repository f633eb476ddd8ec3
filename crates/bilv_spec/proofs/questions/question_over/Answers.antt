use Rattle.bilv_spec.proofs.AskedBytes.{true_over}
use Rattle.bilv_spec.proofs.questions.question_over.Goals as goal

pub returns : goal.returns
returns c = true_over

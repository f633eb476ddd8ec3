use Rattle.answer_laws.proofs.Completeness.{one_answer}
use Rattle.answer_laws.proofs.verify.one_answer.Goals as goal

pub returns : goal.returns
returns c = one_answer

use Rattle.answer_spec.proofs.AnswersOnce.{one_reported_verdict}
use Rattle.answer_spec.proofs.answers.one_reported_verdict.Goals as goal

pub returns : goal.returns
returns c = one_reported_verdict

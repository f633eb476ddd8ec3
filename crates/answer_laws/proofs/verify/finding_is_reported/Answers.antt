use Rattle.answer_laws.proofs.Completeness.{finding_is_reported}
use Rattle.answer_laws.proofs.verify.finding_is_reported.Goals as goal

pub returns : goal.returns
returns c = finding_is_reported

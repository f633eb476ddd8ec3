use Rattle.answer_laws.proofs.Completeness.{one_finding}
use Rattle.answer_laws.proofs.verify.one_finding.Goals as goal

pub returns : goal.returns
returns c = one_finding

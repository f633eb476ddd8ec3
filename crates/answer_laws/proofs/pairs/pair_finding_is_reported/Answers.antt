use Rattle.answer_laws.proofs.EqualFindings.{pair_finding_is_reported}
use Rattle.answer_laws.proofs.pairs.pair_finding_is_reported.Goals as goal

pub returns : goal.returns
returns c = pair_finding_is_reported

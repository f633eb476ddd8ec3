use Rattle.answer_laws.proofs.EqualFindings.{one_pair_finding}
use Rattle.answer_laws.proofs.pairs.one_pair_finding.Goals as goal

pub returns : goal.returns
returns c = one_pair_finding

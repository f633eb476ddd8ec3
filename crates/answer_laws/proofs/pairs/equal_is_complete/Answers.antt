use Rattle.answer_laws.proofs.EqualFindings.{equal_is_complete}
use Rattle.answer_laws.proofs.pairs.equal_is_complete.Goals as goal

pub returns : goal.returns
returns c = equal_is_complete

use Rattle.answer_laws.proofs.Completeness.{verify_is_complete}
use Rattle.answer_laws.proofs.verify.verify_is_complete.Goals as goal

pub returns : goal.returns
returns c = verify_is_complete

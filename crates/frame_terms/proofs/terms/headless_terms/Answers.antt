use Rattle.frame_terms.proofs.HeadlessNodes.{headless_terms}
use Rattle.frame_terms.proofs.terms.headless_terms.Goals as goal

pub returns : goal.returns
returns c = headless_terms

use Rattle.frame_terms.proofs.HeadlessNodes.{headless_passive}
use Rattle.frame_terms.proofs.terms.headless_passive.Goals as goal

pub returns : goal.returns
returns c = headless_passive

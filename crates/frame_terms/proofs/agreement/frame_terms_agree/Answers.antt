use Rattle.frame_terms.proofs.PartValues.{frame_terms_agree}
use Rattle.frame_terms.proofs.agreement.frame_terms_agree.Goals as goal

pub returns : goal.returns
returns c = frame_terms_agree

use Rattle.frame_terms.proofs.PartValues.{frame_addresses_agree}
use Rattle.frame_terms.proofs.agreement.frame_addresses_agree.Goals as goal

pub returns : goal.returns
returns c = frame_addresses_agree

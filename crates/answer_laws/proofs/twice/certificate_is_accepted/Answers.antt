use Rattle.answer_laws.proofs.TwoCalls.{certificate_is_accepted}
use Rattle.answer_laws.proofs.twice.certificate_is_accepted.Goals as goal

pub returns : goal.returns
returns c = certificate_is_accepted

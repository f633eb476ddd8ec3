use Rattle.bilv_spec.proofs.CertifiedQuestions.{certified_is_accepted}
use Rattle.bilv_spec.proofs.certificates.certified_is_accepted.Goals as goal

pub returns : goal.returns
returns c = certified_is_accepted

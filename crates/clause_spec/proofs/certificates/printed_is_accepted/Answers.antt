use Rattle.clause_spec.proofs.AcceptedCertificates.{printed_is_accepted}
use Rattle.clause_spec.proofs.certificates.printed_is_accepted.Goals as goal

pub returns : goal.returns
returns c = printed_is_accepted

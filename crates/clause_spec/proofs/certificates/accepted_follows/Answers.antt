use Rattle.clause_spec.proofs.AcceptedLines.{accepted_follows}
use Rattle.clause_spec.proofs.certificates.accepted_follows.Goals as goal

pub returns : goal.returns
returns c = accepted_follows

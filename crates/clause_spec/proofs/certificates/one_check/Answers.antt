use Rattle.clause_spec.proofs.OneCheck.{one_check}
use Rattle.clause_spec.proofs.certificates.one_check.Goals as goal

pub returns : goal.returns
returns c = one_check

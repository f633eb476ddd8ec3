use Rattle.clause_spec.proofs.NewClauses.{empowering_is_new}
use Rattle.clause_spec.proofs.certificates.empowering_is_new.Goals as goal

pub returns : goal.returns
returns c = empowering_is_new

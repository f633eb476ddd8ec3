use Rattle.clause_spec.proofs.ReadClauses.{one_reading}
use Rattle.clause_spec.proofs.certificates.one_reading.Goals as goal

pub returns : goal.returns
returns c = one_reading

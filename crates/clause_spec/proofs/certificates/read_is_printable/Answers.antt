use Rattle.clause_spec.proofs.ReadClauses.{read_is_printable}
use Rattle.clause_spec.proofs.certificates.read_is_printable.Goals as goal

pub returns : goal.returns
returns c = read_is_printable

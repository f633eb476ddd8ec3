use Rattle.clause_spec.proofs.PrintedClauses.{read_again}
use Rattle.clause_spec.proofs.certificates.read_again.Goals as goal

pub returns : goal.returns
returns c = read_again

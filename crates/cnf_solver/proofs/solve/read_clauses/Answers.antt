use Rattle.clause_spec.proofs.ReadClauses.{read_is_printable}
use Rattle.cnf_form.specs.Views.{cnf_of}
use Rattle.cnf_solver.proofs.solve.read_clauses.Goals as goal

pub returns-clause-few : goal.returns-clause-few
returns-clause-few c = (read_is_printable c.deref.result.now (cnf_of c.in_ok-cnf.cnf) c.in_ok-cnf._lines c.in_ok-cnf.ensures.read).variables

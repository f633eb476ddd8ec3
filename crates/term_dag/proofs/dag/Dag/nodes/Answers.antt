use Rattle.term_dag.specs.contracts.nodes.NodePartialEq.TheImpl.{eq-value}
use Rattle.term_dag.proofs.Equal.{seen_same}
use Rattle.term_dag.proofs.Sharing.{distinct}
use Rattle.term_dag.proofs.dag.Dag.nodes.Goals as goal

pub returns-clause-distinct : goal.returns-clause-distinct
returns-clause-distinct c = rw (← c.self.view_is) (distinct (eq-value).it seen_same c.self.inside.nodes.keys c.len.ensures.unique)

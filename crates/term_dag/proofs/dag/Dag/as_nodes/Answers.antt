use Rattle.std.proofs.Common.{ap, sym, subst, ◌∙◌}
use Rattle.term_spec.specs.Terms.{AreTyped}
use Rattle.term_dag.specs.Nodes.{nodes_of}
use Rattle.term_dag.proofs.dag.Dag.as_nodes.Goals as goal

pub invariant_of-result : goal.invariant_of-result
invariant_of-result c = record {
  typed = subst AreTyped (sym (ap nodes_of c.as_slice.ensures.keys)) c.self.invariant;
}

pub returns : goal.returns
returns c = ap nodes_of c.as_slice.ensures.keys ∙ c.self.view_is

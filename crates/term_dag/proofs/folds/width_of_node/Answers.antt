use Rattle.std.proofs.Common.{arith, subst}
use Rattle.std.proofs.Math.Facts.{Fits-of_lt}
use Rattle.term_spec.specs.Terms.{IsTypedOver}
use Rattle.term_dag.specs.Nodes.{node_of}
use Rattle.term_dag.specs.Lists.{terms}
use Rattle.term_dag.proofs.Shapes.{few_bits}
use Rattle.term_dag.proofs.folds.width_of_node.Goals as goal

pub overflow_add-result : goal.overflow_add-result
overflow_add-result c =
    let h = subst (λ n. IsTypedOver (terms c.args.nodes.now) (node_of n)) c.in-Extract.is c.requires.over in
    Fits-of_lt (omega (arith, h.1, few_bits _ _ c.args.nodes.now.typed h.2))

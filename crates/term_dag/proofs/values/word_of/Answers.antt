use Rattle.std.proofs.Common.{ap, subst, arith}
use Rattle.term_spec.specs.Terms.{IsTypedOver, width_of}
use Rattle.term_dag.specs.Nodes.{node_of}
use Rattle.term_dag.specs.Lists.{terms}
use Rattle.term_dag.proofs.ListLaws.{typed_here}
use Rattle.term_dag.proofs.Shapes.{few_bits}
use Rattle.term_dag.proofs.values.word_of.Goals as goal

pub width_of_node-width-requires : goal.width_of_node-width-requires
width_of_node-width-requires c =
    let o = subst (λ n. IsTypedOver (terms c.args.nodes.now) (node_of n)) c.in-Extract.is c.requires.over in
    record { over = typed_here _ _ _ c.args.nodes.now.typed o.2 c.look.ensures }

pub new-requires-in-Extract-clause-few : goal.new-requires-in-Extract-clause-few
new-requires-in-Extract-clause-few c =
    let o = subst (λ n. IsTypedOver (terms c.args.nodes.now) (node_of n)) c.in-Extract.is c.requires.over in
    omega (arith, few_bits _ _ c.args.nodes.now.typed o.2, ap width_of c.look.ensures, c.width_of_node-width.ensures)

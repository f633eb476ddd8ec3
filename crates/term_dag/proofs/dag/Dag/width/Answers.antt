use Rattle.std.proofs.Common.{sym, subst, ◌<◌, length}
use Rattle.term_dag.proofs.ListLaws.{typed_here}
use Rattle.term_dag.proofs.dag.Dag.width.Goals as goal

pub width_of_node-requires : goal.width_of_node-requires
width_of_node-requires c = record {
  over = typed_here _ _ _ c.as_nodes-nodes.result.typed (subst (λ l. c.args.term.0 < length l) (sym c.as_nodes-nodes.ensures) c.requires) c.look.ensures;
}

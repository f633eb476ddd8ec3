use Rattle.flag_live.specs.Vertices.{IsEdgeAmong, Adds}
use Rattle.graph_nodes.specs.Places.{AreRising}
use Rattle.flag_live.proofs.paths.add_edges.Given as goal

abbrev pub invariant-loop-successor : goal.invariant-loop-successor
invariant-loop-successor l =
    Adds l.initial.edges.items l.edges.items (AreRising l.nodes) (IsEdgeAmong l.nodes l.from l.assigned l.node.successors.items l.successor-index)

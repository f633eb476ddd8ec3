use Rattle.std.proofs.Common.{[]}
use Rattle.flag_live.specs.Vertices.{IsEdge, Adds}
use Rattle.graph_nodes.specs.Places.{AreRising}
use Rattle.flag_live.proofs.paths.edges_of.Given as goal

abbrev pub invariant-loop-i : goal.invariant-loop-i
invariant-loop-i l = Adds [] l.edges.items (AreRising l.nodes) (IsEdge l.nodes l.flag l.i)

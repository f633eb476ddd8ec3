use Rattle.std.proofs.Common.{◌≡◌, ◌++◌, drop}
use Rattle.std.specs.List.{flat_map}
use Rattle.graph_text.specs.NodeText.{node_line}
use Rattle.graph_text.proofs.lines.print_graph.Given as goal

abbrev pub invariant-loop-node : goal.invariant-loop-node
invariant-loop-node l = l.out.items ++ flat_map node_line (drop l.node-index l.node-items) ≡ flat_map node_line l.node-items

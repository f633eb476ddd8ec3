use Rattle.std.proofs.Common.{◌≡◌, ◌++◌, map, take}
use Rattle.bilv_spec.specs.Graph as graph
use Rattle.graph_nodes.specs.Graphs.{letter_of, successor_of}
use Rattle.flow_graph.proofs.listing.push_each.Given as goal

abbrev pub invariant-loop-to : goal.invariant-loop-to
invariant-loop-to l = map successor_of l.found.items ≡ map successor_of l.fn.found.items
    ++ map (graph.successor (letter_of l.letter)) (take l.to-index l.targets)

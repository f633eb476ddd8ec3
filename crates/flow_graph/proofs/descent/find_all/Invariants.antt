use Rattle.graph_nodes.specs.declared.nodes.Successor.{Successor}
use Rattle.flow_graph.proofs.Walking.{Finding}
use Rattle.flow_graph.proofs.descent.find_all.Given as goal

abbrev pub invariant-loop-successor : goal.invariant-loop-successor
invariant-loop-successor l = Finding (λ (s : Successor). s.to) l.fn.found.items l.successors l.successor-index l.found.items l.seen

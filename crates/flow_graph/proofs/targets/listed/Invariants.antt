use Rattle.flow_graph.proofs.Groups.{Listed}
use Rattle.flow_graph.proofs.targets.listed.Given as goal

abbrev pub invariant-loop-i : goal.invariant-loop-i
invariant-loop-i l = Listed l.targets l.index l.low l.i l.found.items

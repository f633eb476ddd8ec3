use Rattle.std.proofs.Common.{◌-◌, ◌^◌, length}
use Rattle.program_value.specs.Programs.{program_of}
use Rattle.flow_graph.proofs.Walking.{Walk}
use Rattle.flow_graph.proofs.descent.all_nodes.Given as goal

abbrev pub invariant-descent : goal.invariant-descent
invariant-descent g l = Walk (program_of l.p) l.others l.found.items l.seen l.nodes.items

abbrev pub decreases-descent : goal.decreases-descent
decreases-descent g l = 2 ^ 32 - length l.nodes.items

use Rattle.std.proofs.Common.{◌-◌}
use Rattle.bilv_spec.specs.LiveFlags.{names_flag}
use Rattle.notes_value.specs.Views.{expr_of}
use Rattle.graph_nodes.specs.Graphs.{IsFlagSet}
use Rattle.flow_graph.proofs.Groups.{any_within, hits}
use Rattle.flow_graph.proofs.flags.asserted.Given as goal

abbrev pub invariant-loop-i : goal.invariant-loop-i
invariant-loop-i l = IsFlagSet l.set (λ f. any_within (hits (λ x. names_flag f (expr_of x.says)) l.asserts l.index) l.low (l.i - l.low))

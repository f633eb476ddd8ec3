use Rattle.std.proofs.Common.{take}
use Rattle.std.specs.List.{list_any}
use Rattle.frame_spec.specs.FrameUnrolling.{names_any}
use Rattle.notes_value.specs.Views.{expr_of}
use Rattle.graph_nodes.specs.Graphs.{IsFlagSet}
use Rattle.flag_live.proofs.contract_flags.addressed.Given as goal

abbrev pub invariant-loop-line : goal.invariant-loop-line
invariant-loop-line l = IsFlagSet l.set (λ f. list_any (λ x. names_any f (expr_of x.says)) (take l.line-index l.writes))

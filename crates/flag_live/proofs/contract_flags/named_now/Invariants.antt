use Rattle.std.proofs.Common.{take}
use Rattle.std.specs.List.{list_any}
use Rattle.bilv_spec.specs.LiveFlags.{names_flag}
use Rattle.notes_value.specs.Views.{expr_of}
use Rattle.graph_nodes.specs.Graphs.{IsFlagSet}
use Rattle.flag_live.proofs.contract_flags.named_now.Given as goal

abbrev pub invariant-loop-line : goal.invariant-loop-line
invariant-loop-line l = IsFlagSet l.set (λ f. list_any (λ x. names_flag f (expr_of x.says)) (take l.line-index l.lines))

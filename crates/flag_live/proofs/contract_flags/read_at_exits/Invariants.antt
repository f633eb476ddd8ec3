use Rattle.std.proofs.Common.{take}
use Rattle.std.specs.Prelude.{◌||◌, not, nat_eq}
use Rattle.std.specs.List.{list_any}
use Rattle.bilv_spec.specs.LiveFlags.{names_flag}
use Rattle.notes_value.specs.FrameViews.{contract_of}
use Rattle.graph_nodes.specs.Graphs.{IsFlagSet}
use Rattle.flag_live.proofs.contract_flags.read_at_exits.Given as goal

abbrev pub invariant-loop-contract : goal.invariant-loop-contract
invariant-loop-contract l =
    IsFlagSet l.set (λ f. list_any (λ x. not (list_any (nat_eq f) (contract_of x).flags) || list_any (λ n. names_flag f n.says) (contract_of x).gives)
    (take l.contract-index l.contracts))

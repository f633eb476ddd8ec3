use Rattle.std.proofs.Common.{ℕ, List, map, subst, arith}
use Rattle.std.specs.Prelude.{◌||◌, not, nat_eq}
use Rattle.std.specs.List.{list_any}
use Rattle.bilv_spec.specs.LiveFlags.{names_flag}
use Rattle.notes_value.specs.FrameViews.{contract_of}
use Rattle.notes_value.specs.NoteViews.{note_line_of}
use Rattle.notes_value.specs.declared.notes.Contract.{Contract}
use Rattle.notes_value.specs.declared.notes.NoteLine.{NoteLine}
use Rattle.graph_nodes.specs.Graphs.{IsFlagSet}
use Rattle.flow_graph.proofs.FlagSets.{flags_or}
use Rattle.flag_live.proofs.ContractFlags.{any_more, any_all}
use Rattle.flag_live.proofs.contract_flags.read_at_exits.Goals as goal

pub loop-contract-preserved : goal.loop-contract-preserved
loop-contract-preserved c =
    let x = c.contract-item.result in
    any_more
    (λ (f : ℕ) (y : Contract). not (list_any (nat_eq f) (contract_of y).flags) || list_any (λ n. names_flag f n.says) (contract_of y).gives)
    c.args.contracts.now c.loop-contract.contract-index c.loop-contract.set _ x
    (omega arith) c.contract-item.is
    (flags_or c.kept.result c.named_now.result (λ f. not (list_any (nat_eq f) (contract_of x).flags))
    (λ f. list_any (λ n. names_flag f n.says) (contract_of x).gives) c.kept.ensures
    (subst (λ (xs : List NoteLine). IsFlagSet c.named_now.result (λ f. list_any (λ l. names_flag f l.says) (map note_line_of xs))) c.deref.ensures.value
    c.named_now.ensures)) c.loop-contract.invariant

pub returns : goal.returns
returns c =
    any_all (λ f x. not (list_any (nat_eq f) x.flags) || list_any (λ n. names_flag f n.says) x.gives) contract_of c.args.contracts.now
    c.loop-contract.contract-index c.loop-contract.set (omega arith) c.loop-contract.invariant

use Rattle.std.proofs.Common.{◌<◌, ℕ, sym, subst, length}
use Rattle.std.specs.List.{AllByRecursion}
use Rattle.term_spec.specs.Terms.{TermNode, IsTypedOver, node_at}
use Rattle.term_dag.specs.Made.{operands}
use Rattle.weakest_pre.specs.Copies.{Always}
use Rattle.weakest_pre.proofs.Marks.{operands_before}
use Rattle.weakest_pre.proofs.Copying.{copy_typed, copy_made, copy_left}
use Rattle.weakest_pre.proofs.copies.kept.Goals as goal

pub moved-requires : goal.moved-requires
moved-requires c =
    let source = c.args.source.now in
    subst (λ (n : TermNode). AllByRecursion (λ a. a < length c.args.copies.now) (operands n)) (sym c.node.ensures)
    (subst (λ (k : ℕ). AllByRecursion (λ a. a < k) (operands (node_at source c.args.place))) (sym c.requires.count)
    (operands_before source c.args.place c.nodes-typed.ensures.typed c.requires.within))

pub keep-requires : goal.keep-requires
keep-requires c =
    subst (IsTypedOver c.args.dag.now) (sym c.moved.ensures)
    (copy_typed Always c.args.source.now c.args.dag.now c.args.marks.now c.requires.reached.0 c.args.place c.args.copies.now _ c.nodes-typed.ensures.typed c.requires.reached.1
    c.requires.place
    c.requires.within c.requires.count c.requires.copies c.if-marks-place.true c.node.ensures)

pub returns-then-marks-place : goal.returns-then-marks-place
returns-then-marks-place c =
    copy_made c.args.source.now c.args.dag.now _ c.args.marks.now c.requires.reached.0 c.args.place c.args.copies.now _ _ _ c.nodes-typed.ensures.typed
    c.requires.reached.1
    c.requires.place c.requires.within c.requires.count c.requires.copies c.if-marks-place.true c.node.ensures c.moved.ensures c.in_ok-term.ensures

pub returns : goal.returns
returns c = copy_left c.args.source.now c.args.dag.now c.args.marks.now c.args.place c.args.place c.nodes-old.ensures.typed c.if-marks-place.false

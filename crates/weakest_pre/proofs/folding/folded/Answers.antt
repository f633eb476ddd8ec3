use Rattle.std.proofs.Common.{◌≡◌, ◌∙◌, ◌<◌, ℕ, ap, sym, subst, length}
use Rattle.std.specs.List.{AllByRecursion}
use Rattle.term_spec.specs.Terms.{TermNode, RegisterNode, IsTypedOver, node_at}
use Rattle.term_dag.specs.Nodes.{node_of}
use Rattle.term_dag.specs.Made.{operands}
use Rattle.weakest_pre.specs.declared.facts.Known.{Known}
use Rattle.weakest_pre.specs.Known.{IsMet}
use Rattle.weakest_pre.specs.Folded.{IsMetBy}
use Rattle.weakest_pre.proofs.Marks.{operands_before}
use Rattle.weakest_pre.proofs.Copying.{copy_typed}
use Rattle.weakest_pre.proofs.FoldedCopies.{folded_made, folded_register, folded_left}
use Rattle.weakest_pre.proofs.folding.folded.Goals as goal

pub returns-in-Register-eq0-default : goal.returns-in-Register-eq0-default
returns-in-Register-eq0-default c =
    let register = c.in-Register-eq0-default.register in
    let h : c.in-Register-eq0-default.part ≡ 0 = sym c.in-Register-eq0-default.part-is ∙ c.in-Register-eq0-default.part-test in
    folded_register c.args.facts.now c.args.source.now c.args.dag.now _ c.args.marks.now c.args.place register _ _ c.runs_of-runs.result c.nodes-typed.ensures.typed
    c.requires.within c.node-node.ensures (ap node_of c.in-Register-eq0-default.is ∙ ap (λ q. RegisterNode q register) h)
    (λ x p. c.runs_of-runs.ensures.met (x.regs 0 register) (p.range.regs 0 register)
    (subst (λ (k : Known). IsMet k (x.regs 0 register)) (sym c.of.ensures) (p.known register))) c.in_ok-term.ensures

pub moved-requires : goal.moved-requires
moved-requires c =
    let source = c.args.source.now in
    subst (λ (n : TermNode). AllByRecursion (λ a. a < length c.args.copies.now) (operands n)) (sym c.node-node.ensures)
    (subst (λ (k : ℕ). AllByRecursion (λ a. a < k) (operands (node_at source c.args.place))) (sym c.requires.count)
    (operands_before source c.args.place c.nodes-typed.ensures.typed c.requires.within))

pub mk-requires : goal.mk-requires
mk-requires c =
    subst (IsTypedOver c.args.dag.now) (sym c.moved.ensures)
    (copy_typed (IsMetBy c.args.facts.now) c.args.source.now c.args.dag.now c.args.marks.now c.requires.reached.0 c.args.place c.args.copies.now _
    c.nodes-typed.ensures.typed c.requires.reached.1 c.requires.place
    c.requires.within c.requires.count c.requires.copies c.if-marks-place.true c.node-node.ensures)

pub returns-then-marks-place : goal.returns-then-marks-place
returns-then-marks-place c =
    folded_made c.args.facts.now c.args.source.now c.args.dag.now _ c.args.marks.now c.requires.reached.0 c.args.place c.args.copies.now _ _ _ c.nodes-typed.ensures.typed
    c.requires.reached.1 c.requires.place c.requires.within c.requires.count c.requires.copies c.if-marks-place.true c.node-node.ensures c.moved.ensures
    c.in_ok-term-2.ensures

pub returns : goal.returns
returns c = folded_left c.args.facts.now c.args.source.now c.args.dag.now c.args.marks.now c.args.place c.args.place c.nodes-old.ensures.typed c.if-marks-place.false

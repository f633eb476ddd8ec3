use Rattle.std.proofs.Common.{◌<◌, sym, subst, length, arith}
use Rattle.std.specs.List.{AllByRecursion}
use Rattle.term_spec.specs.Terms.{TermNode}
use Rattle.term_dag.specs.Made.{operands}
use Rattle.weakest_pre.proofs.Marks.{all_by, operands_before}
use Rattle.weakest_pre.proofs.copies.visit.Goals as goal

pub mark_operands-requires : goal.mark_operands-requires
mark_operands-requires c =
    let marks = c.args.marks.now in
    let place = c.requires.place in
    subst (λ (n : TermNode). AllByRecursion (λ a. a < length marks) (operands n)) (sym c.node.ensures)
    (all_by (λ a. a < c.args.place) (λ a. a < length marks) (λ a l. omega (arith, l, place)) _
    (operands_before c.args.source.now c.args.place c.nodes-typed.ensures.typed c.requires.within))

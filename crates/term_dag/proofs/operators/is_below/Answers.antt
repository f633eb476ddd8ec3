use Rattle.std.proofs.Common.{arith}
use Rattle.term_dag.proofs.Comparisons.{below_none, bit_below_more}
use Rattle.term_dag.proofs.Ranges.{word_fits}
use Rattle.term_dag.proofs.WordFolds.{same_fold}
use Rattle.term_dag.proofs.operators.is_below.Goals as goal

pub returns-then-right-eq0 : goal.returns-then-right-eq0
returns-then-right-eq0 c = same_fold _ 1 _ _ 0 c.args.width _ (λ x i. below_none _ c.args.right c.if-right-eq0.true) (omega arith) (c.truth.ensures _)

pub returns : goal.returns
returns c =
    let b = c.in_ok-_bit.ensures in
    same_fold _ 1 _ _ 0 c.args.width _ (λ x i. bit_below_more _ _ c.args.right (b.value x)
    (word_fits x _ 1 _ i c.args.nodes.now.typed b.place) c.if-right-eq0.false c.if-right-eq1.false) (omega arith) (c.truth-2.ensures _)

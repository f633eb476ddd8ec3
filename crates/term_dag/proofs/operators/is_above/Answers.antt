use Rattle.std.proofs.Common.{◌∙◌, arith}
use Rattle.term_dag.proofs.Comparisons.{above_all, bit_not_above}
use Rattle.term_dag.proofs.Ranges.{word_fits}
use Rattle.term_dag.proofs.WordFolds.{same_fold}
use Rattle.term_dag.proofs.operators.is_above.Goals as goal

pub returns-then-left-ones : goal.returns-then-left-ones
returns-then-left-ones c =
    same_fold _ 1 _ _ 0 c.args.width _
    (λ x i. above_all c.args.width _ c.args.left (word_fits x _ _ _ i c.args.nodes.now.typed c.requires.right) (c.if-left-ones.true ∙ c.ones.ensures)) (omega arith)
    (c.truth.ensures _)

pub returns : goal.returns
returns c =
    let b = c.in_ok-_bit.ensures in
    same_fold _ 1 _ _ 0 c.args.width _ (λ x i. bit_not_above _ _ c.args.left (b.value x) (word_fits x _ 1 _ i c.args.nodes.now.typed b.place) c.if-left-eq0.false)
    (omega arith) (c.truth-2.ensures _)

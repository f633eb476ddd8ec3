use Rattle.std.proofs.Common.{◌∙◌, arith}
use Rattle.term_dag.proofs.Comparisons.{greatest_of_all}
use Rattle.term_dag.proofs.Ranges.{word_fits}
use Rattle.term_dag.proofs.WordFolds.{same_fold}
use Rattle.term_dag.proofs.operators.to_constant.Goals as goal

pub returns-then-right-ones : goal.returns-then-right-ones
returns-then-right-ones c =
    rw c.in-LessEqual.is (same_fold _ 1 _ _ 0 c.args.width _
    (λ x i. greatest_of_all c.args.width _ c.args.right (word_fits x _ _ _ i c.args.nodes.now.typed c.requires.left) (c.if-right-ones.true ∙ c.ones.ensures))
    (omega arith) (c.truth.ensures _))

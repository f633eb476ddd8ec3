use Rattle.std.proofs.Common.{ap, sym, arith}
use Rattle.std.specs.Prelude.{◌==◌}
use Rattle.word_spec.specs.Words as words
use Rattle.term_dag.proofs.WordFolds.{same_fold, moved_onto}
use Rattle.term_dag.proofs.operators.equality.Goals as goal

pub returns-in-Some : goal.returns-in-Some
returns-in-Some c =
    same_fold _ 1 _ _ 0 c.args.width _ (λ x i. ap (λ z. words.bit (words.differ c.args.differs (z == c.args.right))) (sym (c.in-Some.ensures.value x)))
    (omega arith) c.bit_equality-in-Some.ensures

pub returns : goal.returns
returns c =
    moved_onto _ c.args.width _ _ c.parts-sum.result.offset c.args.right _ c.args.differs _ c.args.nodes.now.typed c.requires.some c.parts-sum.ensures
    c.requires.below
    c.apply-difference.ensures.value c.apply-difference.ensures.below c.equality_op.ensures

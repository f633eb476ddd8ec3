use Rattle.std.proofs.Common.{arith}
use Rattle.term_dag.proofs.Ranges.{word_fits}
use Rattle.term_dag.proofs.WordFolds.{same_fold}
use Rattle.term_dag.proofs.WordLaws.{never, bit_itself, bit_turned, unlike, alike}
use Rattle.term_dag.proofs.operators.bit_equality.Goals as goal

pub returns-then-right-gt1 : goal.returns-then-right-gt1
returns-then-right-gt1 c =
    same_fold _ 1 _ _ 0 0 _ (λ x i. never c.args.differs _ c.args.right (word_fits x _ 1 _ i c.args.nodes.now.typed c.requires.place) c.if-right-gt1.true)
    (omega arith) (c.truth.ensures _)

pub returns-then-right-differs : goal.returns-then-right-differs
returns-then-right-differs c = record {
  place = c.requires.place;
  value = λ x i. bit_itself c.args.differs _ c.args.right (word_fits x _ 1 _ i c.args.nodes.now.typed c.requires.place) c.if-right-gt1.false
      (unlike _ _ c.if-right-differs.true);
}

pub returns : goal.returns
returns c =
    same_fold _ 1 _ _ 0 0 _
    (λ x i. bit_turned c.args.differs _ c.args.right (word_fits x _ 1 _ i c.args.nodes.now.typed c.requires.place) c.if-right-gt1.false
    (alike _ _ c.if-right-differs.false)) (omega arith) c.negation.ensures

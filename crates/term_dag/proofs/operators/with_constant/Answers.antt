use Rattle.std.proofs.Common.{◌*◌, ap, ◌∙◌, arith}
use Rattle.word_spec.specs.Words as words
use Rattle.term_spec.specs.Terms.{term_word}
use Rattle.term_dag.specs.Lists.{terms}
use Rattle.term_dag.proofs.Ranges.{word_fits}
use Rattle.term_dag.proofs.WordFolds.{same_fold}
use Rattle.term_dag.proofs.WordLaws.{add_negative, xor_ones}
use Rattle.term_dag.proofs.operators.with_constant.Goals as goal

pub returns-in-Minus : goal.returns-in-Minus
returns-in-Minus c =
    let w = c.args.width in
    rw c.in-Minus.is (same_fold _ w _ _ (2 * w) (2 * w) _
    (λ x i. ap (words.add w (term_word x (terms c.args.nodes.now) c.args.left.0)) c.apply.ensures.value ∙ add_negative w
    (term_word x (terms c.args.nodes.now) c.args.left.0) c.args.right) (omega arith) c.raised-in-Minus.ensures)

pub returns-else-right-ones : goal.returns-else-right-ones
returns-else-right-ones c =
    let w = c.args.width in
    rw c.in-Xor.is (same_fold _ w _ _ 0 w _
    (λ x i. xor_ones w (term_word x (terms c.args.nodes.now) c.args.left.0) c.args.right (word_fits x _ _ _ i c.args.nodes.now.typed c.requires.left)
    (c.if-right-ones.false ∙ c.ones.ensures)) (omega arith) c.negation.ensures)

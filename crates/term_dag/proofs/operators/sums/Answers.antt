use Rattle.std.proofs.Common.{ap, sym, ◌∙◌, arith}
use Rattle.std.specs.Prelude.{◌==◌}
use Rattle.word_spec.specs.Words as words
use Rattle.term_spec.specs.Terms.{term_word}
use Rattle.term_dag.specs.Lists.{terms}
use Rattle.term_dag.proofs.Ranges.{word_fits}
use Rattle.term_dag.proofs.WordFolds.{same_fold}
use Rattle.term_dag.proofs.WordLaws.{same_sums, unlike_is}
use Rattle.term_dag.proofs.operators.sums.Goals as goal

pub returns : goal.returns
returns c =
    let a = c.parts-a.ensures in
    let b = c.parts-b.ensures in
    let w = c.args.width in
    let ns = terms c.args.nodes.now in
    same_fold _ 1 _ _ 0 0 _
    (λ x i.
    ap words.bit (unlike_is (c.parts-a.result.offset == c.parts-b.result.offset) c.args.differs)
    ∙ ap (λ z. words.bit (words.differ c.args.differs z)) (same_sums w (term_word x ns c.parts-a.result.base.0) c.parts-a.result.offset c.parts-b.result.offset
    (word_fits x _ _ _ i c.args.nodes.now.typed a.place) a.below b.below)
    ∙ ap (λ z. words.bit (words.differ c.args.differs (z == words.add w (term_word x ns c.parts-a.result.base.0) c.parts-b.result.offset))) (sym (a.value x i))
    ∙ ap (λ z. words.bit (words.differ c.args.differs (term_word x ns c.args.left.0 == z))) (ap
    (λ t. words.add w (term_word x ns t) c.parts-b.result.offset) c.if-a-b.false ∙ sym (b.value x i)))
    (omega arith) (c.truth.ensures _)

use Rattle.std.proofs.Common.{ap, ◌∙◌, arith}
use Rattle.term_spec.specs.Terms.{term_word}
use Rattle.term_dag.specs.Lists.{terms}
use Rattle.term_dag.proofs.Ranges.{word_fits}
use Rattle.term_dag.proofs.WordFolds.{same_fold}
use Rattle.term_dag.proofs.WordLaws.{select_sides, select_same}
use Rattle.term_dag.proofs.selections.positive.Goals as goal

pub returns-then-first-second : goal.returns-then-first-second
returns-then-first-second c = record {
  place = c.side-first.ensures.place;
  value = λ x i.
      select_same _ _ _ _ (word_fits x _ 1 _ i c.args.nodes.now.typed c.requires.condition) (λ e. ap (λ z. z.word) (c.side-first.ensures.value x i e))
      (λ e. ap (term_word x (terms c.args.nodes.now)) c.if-first-second.true ∙ ap (λ z. z.word) (c.side-second.ensures.value x i e));
}

pub returns : goal.returns
returns c =
    same_fold _ c.args.width _ _ c.args.width c.args.width _
    (λ x i. select_sides _ _ _ _ _ (word_fits x _ 1 _ i c.args.nodes.now.typed c.requires.condition) (λ e. ap (λ z. z.word) (c.side-first.ensures.value x i e))
    (λ e. ap (λ z. z.word) (c.side-second.ensures.value x i e)))
    (omega arith) c.chosen.ensures

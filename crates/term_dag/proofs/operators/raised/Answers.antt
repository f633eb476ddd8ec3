use Rattle.std.proofs.Common.{refl, ap, sym, ◌∙◌, arith}
use Rattle.word_spec.specs.Words as words
use Rattle.term_spec.specs.Terms.{term_word}
use Rattle.term_dag.specs.Lists.{terms}
use Rattle.term_dag.proofs.Ranges.{word_fits}
use Rattle.term_dag.proofs.WordLaws.{add_add, add_back}
use Rattle.term_dag.proofs.operators.raised.Goals as goal

pub returns-then-offset-eq0 : goal.returns-then-offset-eq0
returns-then-offset-eq0 c =
    let s = c.parts-sum.ensures in
    let w = c.args.width in
    record {
      place = s.place;
      value = λ x i.
          add_back w (term_word x (terms c.args.nodes.now) c.parts-sum.result.base.0) c.parts-sum.result.offset c.args.addend
          (word_fits x _ _ _ i c.args.nodes.now.typed s.place) (sym c.apply-offset.ensures.value ∙ c.if-offset-eq0.true)
          ∙ ap (λ z. words.add w z c.args.addend) (sym (s.value x i));
    }

pub returns : goal.returns
returns c =
    let s = c.parts-sum.ensures in
    let w = c.args.width in
    record {
      some = c.requires.some;
      first = s.place;
      second = c.apply-offset.ensures.below;
      width = refl;
      value = λ x i.
          ap (words.add w (term_word x (terms c.args.nodes.now) c.parts-sum.result.base.0)) c.apply-offset.ensures.value
          ∙ sym (add_add w (term_word x (terms c.args.nodes.now) c.parts-sum.result.base.0) c.parts-sum.result.offset c.args.addend)
          ∙ ap (λ z. words.add w z c.args.addend) (sym (s.value x i));
      gates = omega arith;
    }

use Rattle.std.proofs.Common.{refl, sym, ◌∙◌, ap, subst, arith, ℕ}
use Rattle.term_spec.specs.Terms.{HasWidth, word_value}
use Rattle.term_dag.specs.Lists.{terms}
use Rattle.term_dag.proofs.Ranges.{word_fits}
use Rattle.term_dag.proofs.WordLaws.{select_bits}
use Rattle.term_dag.proofs.selections.chosen.Goals as goal

pub returns-then-width-eq1 : goal.returns-then-width-eq1
returns-then-width-eq1 c = record {
  place = subst (λ (w : ℕ). HasWidth (terms c.args.nodes.now) w c.args.condition.0) (sym c.if-width-eq1.true) c.requires.condition;
  value = λ x i.
      select_bits _ _ _ (word_fits x _ 1 _ i c.args.nodes.now.typed c.requires.condition) (c.in-Some.ensures.value x ∙ c.if-first-eq1.true)
      (c.in-Some-constant.ensures.value x ∙ c.if-second-eq0.true);
}

pub returns-then-second-eq0 : goal.returns-then-second-eq0
returns-then-second-eq0 c = record {
  typed = ((omega arith, omega arith), c.requires.some.0, c.requires.some.1, c.requires.condition);
  width = refl;
  value = λ x i. ap word_value (
      select_bits _ _ _ (word_fits x _ 1 _ i c.args.nodes.now.typed c.requires.condition) (c.in-Some.ensures.value x ∙ c.if-first-eq1.true)
      (c.in-Some-constant.ensures.value x ∙ c.if-second-eq0.true));
  gates = omega arith;
  loads = refl;
  stores = refl;
  joins = refl;
  derived = λ z. z;
}

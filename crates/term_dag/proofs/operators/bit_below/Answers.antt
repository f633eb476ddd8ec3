use Rattle.std.proofs.Common.{ℕ, ap, subst, ◌∙◌}
use Rattle.term_spec.specs.Terms.{HasWidth, extend, term_word}
use Rattle.term_dag.specs.Lists.{terms}
use Rattle.term_dag.proofs.Shapes.{extend_side}
use Rattle.term_dag.proofs.operators.bit_below.Goals as goal

pub returns-else-from-ne1-clause-place : goal.returns-else-from-ne1-clause-place
returns-else-from-ne1-clause-place c =
    subst (λ (n : ℕ). HasWidth (terms c.args.nodes.now) n c.in-Extend.bit.0) c.if-from-ne1.false
    (extend_side _ _ _ _ _ _ c.args.nodes.now.typed c.requires.within c.in-Extend.ensures).0

pub returns-else-from-ne1-clause-value : goal.returns-else-from-ne1-clause-value
returns-else-from-ne1-clause-value c = λ x.
    (extend_side _ _ _ _ _ _ c.args.nodes.now.typed c.requires.within c.in-Extend.ensures).1 x
    ∙ ap (λ s. extend s c.in-Extend.from c.in-Extend.to (term_word x (terms c.args.nodes.now) c.in-Extend.bit.0)) c.if-signed.false

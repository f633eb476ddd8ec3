use Rattle.std.proofs.Common.{◌∙◌, ap, sym, inl, inr}
use Rattle.clause_spec.specs.Clauses.{same}
use Rattle.sat_core.proofs.Literals.{has-item, has-taken}
use Rattle.sat_core.proofs.propagator.first_two.Goals as goal

pub returns-then-not-is_same-clause-second : goal.returns-then-not-is_same-clause-second
returns-then-not-is_same-clause-second c = has-item c.args.clause.now c.loop-lit.lit-index c.lit-item.result c.loop-lit-test.true c.lit-item.is

pub loop-lit-preserved : goal.loop-lit-preserved
loop-lit-preserved c = λ m h. elim (has-taken c.args.clause.now c.loop-lit.lit-index c.lit-item.result c.loop-lit-test.true c.lit-item.is m h) [
  | inl e ↦ c.loop-lit.invariant m e
  | inr e ↦ ap (same c.index-clause-0.result) (sym e) ∙ sym c.is_same.ensures ∙ c.if-not-is_same.false
]

use Rattle.std.proofs.Common.{◌≤◌, ◌<◌, ◌∙◌, ap, arith, subst, inl, inr}
use Rattle.std.proofs.lemmas.List.{take_all}
use Rattle.clause_spec.specs.Clauses.{Literal, Clause, has}
use Rattle.sat_core.proofs.Literals.{has-taken}
use Rattle.sat_core.proofs.learn.are_over.Goals as goal

pub loop-lit-preserved : goal.loop-lit-preserved
loop-lit-preserved c =
    let x = c.lit-item.result in
    let old = has-taken c.args.lits.now c.loop-lit.lit-index x c.loop-lit-test.true c.lit-item.is in
    let low : 1 ≤ x.variable = (let a = c.variable.ensures.value in let b = c.variable.ensures.from in omega arith) in
    let high : x.variable < c.args.size = (let a = c.variable.ensures.value in let b = c.if-variable-size.false in omega arith) in
    λ m h. elim (old m h) [
      | inl e ↦ c.loop-lit.invariant m e
      | inr e ↦ subst (λ (z : Literal). (1 ≤ z.variable) × (z.variable < c.args.size)) e (low, high)
    ]

pub returns : goal.returns
returns c = λ q l h.
    let w = c.loop-lit.invariant l (ap (λ (z : Clause). has z l) (take_all c.loop-lit.lit-index c.args.lits.now c.loop-lit-test.false) ∙ h) in
    let a : l.variable < c.args.size = w.1 in
    (w.0, omega arith)

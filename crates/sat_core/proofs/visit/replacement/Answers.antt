use Rattle.std.proofs.Common.{◌∙◌, ap, sym, inl, inr, arith}
use Rattle.std.proofs.lemmas.Bool.{both_ways}
use Rattle.clause_spec.specs.Clauses.{Literal, same, opposite}
use Rattle.sat_core.specs.Tables.{true_in}
use Rattle.sat_core.proofs.Literals.{has-item, has-taken}
use Rattle.sat_core.proofs.visit.replacement.Goals as goal

pub loop-lit-preserved-then-is_same : goal.loop-lit-preserved-then-is_same
loop-lit-preserved-then-is_same c = λ m h d. elim (has-taken c.args.clause.now c.loop-lit.lit-index c.lit-item.result c.loop-lit-test.true c.lit-item.is m h) [
  | inl e ↦ c.loop-lit.invariant m e d
  | inr e ↦ absurd (both_ways (same m c.args.mate) d (ap (λ (z : Literal). same z c.args.mate) (sym e) ∙ sym c.is_same.ensures ∙ c.if-is_same.true))
]

pub is_true-requires : goal.is_true-requires
is_true-requires c =
    let w = c.requires c.lit-item.result (has-item c.args.clause.now c.loop-lit.lit-index c.lit-item.result c.loop-lit-test.true c.lit-item.is) in
    rw c.opposite.ensures (let a = w.0 in let b = w.1 in omega arith)

pub returns-then-not-is_true-clause-among : goal.returns-then-not-is_true-clause-among
returns-then-not-is_true-clause-among c = has-item c.args.clause.now c.loop-lit.lit-index c.lit-item.result c.loop-lit-test.true c.lit-item.is

pub loop-lit-preserved : goal.loop-lit-preserved
loop-lit-preserved c = λ m h d. elim (has-taken c.args.clause.now c.loop-lit.lit-index c.lit-item.result c.loop-lit-test.true c.lit-item.is m h) [
  | inl e ↦ c.loop-lit.invariant m e d
  | inr e ↦ ap (λ (z : Literal). true_in c.args.table.now (opposite z)) (sym e) ∙ ap (true_in c.args.table.now)
      (sym c.opposite.ensures) ∙ sym c.is_true.ensures ∙ c.if-not-is_true.false
]

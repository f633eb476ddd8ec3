use Rattle.std.proofs.Common.{◌<◌, length, arith, true, false, get_or, slice_set, ap, ◌∙◌, sym, inl, inr}
use Rattle.clause_spec.specs.Clauses.{Literal}
use Rattle.sat_core.proofs.Literals.{has-item, has-taken}
use Rattle.sat_core.proofs.Backwards.{set-stays, set-self}
use Rattle.sat_core.proofs.hints.mark.Goals as goal

pub bounds-needed-variable : goal.bounds-needed-variable
bounds-needed-variable c =
    let x = c.lit-item.result in
    let w = c.requires x (has-item c.args.clause.now c.loop-lit.lit-index x c.loop-lit-test.true c.lit-item.is) in
    rw (c.variable.ensures.value, c.loop-lit.auto.needed) (let a = w.0 in let b = w.1 in omega arith)

pub loop-lit-preserved : goal.loop-lit-preserved
loop-lit-preserved c =
    let x = c.lit-item.result in
    let inv = c.loop-lit.invariant in
    let w = c.requires x (has-item c.args.clause.now c.loop-lit.lit-index x c.loop-lit-test.true c.lit-item.is) in
    let lt : x.variable < length c.loop-lit.needed = rw c.loop-lit.auto.needed (let a = w.0 in let b = w.1 in omega arith) in
    rw c.variable.ensures.value record {
      stays = λ v h. set-stays c.loop-lit.needed x.variable v (inv.stays v h);
      marked = λ m h. elim (has-taken c.args.clause.now c.loop-lit.lit-index x c.loop-lit-test.true c.lit-item.is m h) [
        | inl e ↦ set-stays c.loop-lit.needed x.variable m.variable (inv.marked m e)
        | inr e ↦ ap (λ (z : Literal). get_or (slice_set c.loop-lit.needed x.variable true) z.variable false) (sym e) ∙ set-self c.loop-lit.needed x.variable lt
      ];
    }

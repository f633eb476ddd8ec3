use Rattle.std.proofs.Common.{◌∙◌, ap, sym, arith, inl, inr}
use Rattle.clause_spec.specs.Clauses.{Literal, same, opposite}
use Rattle.clause_spec.proofs.Looks.{same-self, or_left, or_right}
use Rattle.sat_core.specs.Tables.{true_in}
use Rattle.sat_core.proofs.Literals.{has-item, has-taken}
use Rattle.sat_core.proofs.Stepping.{steps-more}
use Rattle.sat_core.proofs.trail.Trail.refuse.Goals as goal

pub is_true-requires : goal.is_true-requires
is_true-requires c =
    let x = c.lit-item.result in
    let w = c.requires.within x (has-item c.args.clause.now c.loop-lit.lit-index x c.loop-lit-test.true c.lit-item.is) in
    rw (c.deref.ensures.value, c.loop-lit.invariant.size) (let a = w.0 in let b = w.1 in omega arith)

pub is_true-requires-in-loop-lit : goal.is_true-requires-in-loop-lit
is_true-requires-in-loop-lit c =
    let x = c.lit-item.result in
    let w = c.requires.within x (has-item c.args.clause.now c.loop-lit.lit-index x c.loop-lit-test.true c.lit-item.is) in
    rw (c.opposite.ensures, c.deref-in-loop-lit.ensures.value, c.loop-lit.invariant.size) (let a = w.0 in let b = w.1 in omega arith)

pub loop-lit-preserved-then-is_true-2 : goal.loop-lit-preserved-then-is_true-2
loop-lit-preserved-then-is_true-2 c =
    let x = c.lit-item.result in
    let inv = c.loop-lit.invariant in
    let t = rw (c.deref-in-loop-lit.ensures.value, c.opposite.ensures, c.if-is_true-2.true) at c.is_true-in-loop-lit.ensures in
    record {
      trail = inv.trail;
      size = inv.size;
      steps = inv.steps;
      grows = inv.grows;
      denied = λ m p. elim (has-taken c.args.clause.now c.loop-lit.lit-index x c.loop-lit-test.true c.lit-item.is m p) [
        | inl e ↦ inv.denied m e
        | inr e ↦ ap (λ (z : Literal). true_in c.loop-lit.self.table.items (opposite z)) (sym e) ∙ sym t
      ];
    }

pub push-requires-clause-within : goal.push-requires-clause-within
push-requires-clause-within c =
    let x = c.lit-item.result in
    let w = c.requires.within x (has-item c.args.clause.now c.loop-lit.lit-index x c.loop-lit-test.true c.lit-item.is) in
    rw (c.opposite-in-loop-lit.ensures, c.loop-lit.invariant.size) (let a = w.0 in let b = w.1 in omega arith)

pub loop-lit-preserved : goal.loop-lit-preserved
loop-lit-preserved c =
    let x = c.lit-item.result in
    let inv = c.loop-lit.invariant in
    let h = true_in c.loop-lit.self.table.items in
    let k = true_in c.push.new.self.table.items in
    let v = rw c.opposite-in-loop-lit.ensures at c.push.ensures.values in
    record {
      trail = c.push.ensures.trail;
      size = c.push.ensures.size ∙ inv.size;
      steps = steps-more c.args.self.now.steps.items c.loop-lit.self.steps.items c.push.new.self.steps.items _ inv.steps c.push.ensures.steps;
      grows = λ m p. v m ∙ or_right (same (opposite x) m) (h m) (inv.grows m p);
      denied = λ m p. elim (has-taken c.args.clause.now c.loop-lit.lit-index x c.loop-lit-test.true c.lit-item.is m p) [
        | inl e ↦ v (opposite m) ∙ or_right (same (opposite x) (opposite m)) (h (opposite m)) (inv.denied m e)
        | inr e ↦ ap (λ (z : Literal). k (opposite z)) (sym e) ∙ v (opposite x) ∙ or_left (same (opposite x) (opposite x)) (h (opposite x))
            (same-self (opposite x))
      ];
    }

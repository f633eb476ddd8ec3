use Rattle.std.proofs.Common.{◌∙◌, ap, sym, arith, refl}
use Rattle.clause_spec.specs.Clauses.{opposite}
use Rattle.clause_spec.proofs.NewClauses.{opposite_twice}
use Rattle.sat_core.specs.Tables.{true_in}
use Rattle.sat_core.proofs.Literals.{has-item, not-behind, denied-more, added-same}
use Rattle.sat_core.proofs.trail.Trail.deny.Goals as goal

pub loop-lit-init : goal.loop-lit-init
loop-lit-init c = record {
  trail = c.requires.trail;
  size = refl;
  values = λ m. c.requires.trail.told_by m ∙ rw c.requires.empty refl;
}

pub is_true-requires : goal.is_true-requires
is_true-requires c =
    let x = c.lit-item.result in
    let w = c.requires.within x (has-item c.args.clause.now c.loop-lit.lit-index x c.loop-lit-test.true c.lit-item.is) in
    rw (c.opposite.ensures, c.deref.ensures.value, c.loop-lit.invariant.size) (let a = w.0 in let b = w.1 in omega arith)

pub loop-lit-preserved-then-is_true : goal.loop-lit-preserved-then-is_true
loop-lit-preserved-then-is_true c =
    let x = c.lit-item.result in
    let h = true_in c.loop-lit.self.table.items in
    let inv = c.loop-lit.invariant in
    let t = rw (c.deref.ensures.value, c.opposite.ensures, c.if-is_true.true) at c.is_true.ensures in
    record {
      trail = inv.trail;
      size = inv.size;
      values = denied-more c.args.clause.now c.loop-lit.lit-index x c.loop-lit-test.true c.lit-item.is h h inv.values (added-same (opposite x) h (sym t));
    }

pub push-requires-clause-within : goal.push-requires-clause-within
push-requires-clause-within c =
    let x = c.lit-item.result in
    let w = c.requires.within x (has-item c.args.clause.now c.loop-lit.lit-index x c.loop-lit-test.true c.lit-item.is) in
    rw (c.opposite-in-loop-lit.ensures, c.loop-lit.invariant.size) (let a = w.0 in let b = w.1 in omega arith)

pub push-requires-clause-open : goal.push-requires-clause-open
push-requires-clause-open c =
    let t = rw (c.deref.ensures.value, c.opposite.ensures, c.if-is_true.false) at c.is_true.ensures in
    rw c.opposite-in-loop-lit.ensures (sym t)

pub push-requires-clause-not_false : goal.push-requires-clause-not_false
push-requires-clause-not_false c =
    let x = c.lit-item.result in
    rw c.opposite-in-loop-lit.ensures (ap (true_in c.loop-lit.self.table.items) (opposite_twice x) ∙ c.loop-lit.invariant.values x
    ∙ not-behind c.args.clause.now c.loop-lit.lit-index x c.loop-lit-test.true c.requires.plain c.lit-item.is)

pub loop-lit-preserved : goal.loop-lit-preserved
loop-lit-preserved c =
    let inv = c.loop-lit.invariant in
    record {
      trail = c.push.ensures.trail;
      size = c.push.ensures.size ∙ inv.size;
      values = denied-more c.args.clause.now c.loop-lit.lit-index c.lit-item.result c.loop-lit-test.true c.lit-item.is (true_in c.loop-lit.self.table.items)
          (true_in c.push.new.self.table.items) inv.values (rw c.opposite-in-loop-lit.ensures at c.push.ensures.values);
    }

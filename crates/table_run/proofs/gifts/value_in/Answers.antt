use Rattle.std.proofs.Common.{◌∙◌, sym, arith}
use Rattle.table_run.proofs.GiftLists.{value_ends, value_is, value_passes, value_skips}
use Rattle.table_run.proofs.gifts.value_in.Goals as goal

pub loop-n-preserved-then-not-is_in : goal.loop-n-preserved-then-not-is_in
loop-n-preserved-then-not-is_in c = record {
  few = (let few = c.loop-n.invariant.few in omega (arith, few));
  value = value_skips c.args.set c.args.register c.args.values.now c.loop-n.i c.loop-n.n 32 c.loop-n-test.true (sym c.if-not-is_in.ensures)
      ∙ c.loop-n.invariant.value;
}

pub returns-then-n-register : goal.returns-then-n-register
returns-then-n-register c =
    c.value_at.ensures ∙ sym (value_is c.args.set c.args.register c.args.values.now c.loop-n.i c.loop-n.n 32 c.loop-n-test.true (sym c.if-not-is_in.ensures)
    c.if-n-register.true) ∙ c.loop-n.invariant.value

pub loop-n-preserved : goal.loop-n-preserved
loop-n-preserved c = record {
  few = (let few = c.loop-n.invariant.few in omega (arith, few));
  value = value_passes c.args.set c.args.register c.args.values.now c.loop-n.i c.loop-n.n 32 c.loop-n-test.true (sym c.if-not-is_in.ensures)
      c.if-n-register.false ∙ c.loop-n.invariant.value;
}

pub returns : goal.returns
returns c =
    sym (sym c.loop-n.invariant.value
    ∙ value_ends c.args.set c.args.register c.loop-n.n _ _ (let past = c.loop-n-test.false in omega (arith, past)))

use Rattle.std.proofs.Common.{sym, ◌∙◌}
use Rattle.refutation_checker.specs.Slots.{true_in}
use Rattle.refutation_checker.proofs.Seen.{has-item}
use Rattle.refutation_checker.proofs.SlotLaws.{plain-more, not-plain, denied-more}
use Rattle.refutation_checker.proofs.slots.deny.Goals as goal

pub is_true-requires-clause-within : goal.is_true-requires-clause-within
is_true-requires-clause-within c =
    rw c.loop-lit.auto.slots (c.requires.within c.lit-item.result
    (has-item c.args.clause.now c.loop-lit.lit-index c.lit-item.result c.loop-lit-test.true c.lit-item.is))

pub returns-then-is_true-clause-tautology : goal.returns-then-is_true-clause-tautology
returns-then-is_true-clause-tautology c =
    not-plain c.args.clause.now c.loop-lit.lit-index c.lit-item.result c.loop-lit-test.true c.lit-item.is
    (sym (c.loop-lit.invariant.values c.lit-item.result) ∙ sym c.is_true.ensures ∙ c.if-is_true.true)

pub assign-requires-clause-within : goal.assign-requires-clause-within
assign-requires-clause-within c =
    rw (c.opposite.ensures, c.loop-lit.auto.slots) (c.requires.within c.lit-item.result
    (has-item c.args.clause.now c.loop-lit.lit-index c.lit-item.result c.loop-lit-test.true c.lit-item.is))

pub loop-lit-preserved : goal.loop-lit-preserved
loop-lit-preserved c =
    let inv = c.loop-lit.invariant in
    record {
      values = denied-more c.args.clause.now c.loop-lit.lit-index c.lit-item.result c.loop-lit-test.true c.lit-item.is
          (true_in c.args.line c.args.names.now c.loop-lit.slots) (true_in c.args.line c.args.names.now c.assign.new.slots)
          inv.values (rw c.opposite.ensures at c.assign.ensures.values);
      plain = plain-more c.args.clause.now c.loop-lit.lit-index c.lit-item.result c.loop-lit-test.true c.lit-item.is inv.plain
          (sym (inv.values c.lit-item.result) ∙ sym c.is_true.ensures ∙ c.if-is_true.false);
      lines = λ u. c.assign.ensures.lines (inv.lines u);
    }

use Rattle.std.proofs.Common.{sym, ◌∙◌}
use Rattle.cnf_form.proofs.Splits.{parts-at, ended-at}
use Rattle.cnf_form.proofs.lists.split_at_zero.Goals as goal

pub returns-then-is_zero-clause-parts : goal.returns-then-is_zero-clause-parts
returns-then-is_zero-clause-parts c =
    parts-at c.args.numbers.now c.loop-i.i c.index-numbers-i.result c.loop-i-test.true c.index-numbers-i.is
    (sym c.is_zero.ensures ∙ c.if-is_zero.true) c.loop-i.invariant

pub returns-then-is_zero-clause-ended : goal.returns-then-is_zero-clause-ended
returns-then-is_zero-clause-ended c =
    ended-at c.args.numbers.now c.loop-i.i c.index-numbers-i.result c.loop-i-test.true c.index-numbers-i.is (sym c.is_zero.ensures ∙ c.if-is_zero.true)

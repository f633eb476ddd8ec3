use Rattle.std.proofs.Common.{sym, ◌∙◌}
use Rattle.unroller.proofs.Adding.{found_here, not_here, none_left}
use Rattle.unroller.proofs.edges.is_among.Goals as goal

pub returns-then-is_same : goal.returns-then-is_same
returns-then-is_same c = sym (found_here c.args.other c.args.ends.now c.loop-end.end-index _ c.loop-end-test.true c.loop-end.invariant
    (sym c.is_same.ensures ∙ c.if-is_same.true))

pub loop-end-preserved : goal.loop-end-preserved
loop-end-preserved c = not_here c.args.other c.args.ends.now c.loop-end.end-index _ c.loop-end-test.true c.loop-end.invariant
    (sym c.is_same.ensures ∙ c.if-is_same.false)

pub returns : goal.returns
returns c = sym (c.loop-end.invariant ∙ none_left c.args.other c.args.ends.now c.loop-end.end-index c.loop-end-test.false)

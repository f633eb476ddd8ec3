use Rattle.std.proofs.Common.{◌∙◌}
use Rattle.std.proofs.lemmas.Bool.{both_ways}
use Rattle.flag_live.proofs.Lives.{on_by_exit}
use Rattle.flag_live.proofs.live.is_on.Goals as goal

pub returns-then-not-node-clause-only : goal.returns-then-not-node-clause-only
returns-then-not-node-clause-only c rising on =
    absurd (both_ways _ c.if-not-node.true
    (on_by_exit c.args.nodes.now c.args.marked.now c.args.node.now c.deref-successor-items.result.now c.loop-successor.successor-index
    c.deref-successor-items.ensures.value c.loop-successor-test.false
    (c.loop-successor.invariant rising) on).0)

pub returns-clause-only : goal.returns-clause-only
returns-clause-only c rising on =
    c.is_marked.ensures
    ∙ (on_by_exit c.args.nodes.now c.args.marked.now c.args.node.now c.deref-successor-items.result.now c.loop-successor.successor-index
    c.deref-successor-items.ensures.value c.loop-successor-test.false
    (c.loop-successor.invariant rising) on).1

use Rattle.std.proofs.Common.{arith}
use Rattle.smtlib_print.specs.Orders.{points_by}
use Rattle.smtlib_print.proofs.Placing.{all_placed, placed_more, placed_none}
use Rattle.smtlib_print.proofs.numbering.all_placed.Goals as goal

pub loop-place-init : goal.loop-place-init
loop-place-init c =
    placed_none (points_by c.args.unrolled.now c.args.steps c.args.roots.now) c.args.unrolled.now.frames.items c.new-found.result.items c.new-found.ensures.items

pub loop-place-preserved : goal.loop-place-preserved
loop-place-preserved c =
    placed_more (points_by c.args.unrolled.now c.args.steps c.args.roots.now) c.args.unrolled.now.frames.items c.loop-place.place c.placed_at.result
    c.loop-place.found.items c.push.new.self.items c.in_ok-push.ensures.items
    c.placed_at.ensures c.loop-place.invariant

pub returns : goal.returns
returns c =
    all_placed c.args.unrolled.now c.args.steps c.args.roots.now c.loop-place.place c.loop-place.found.items
    (omega (arith, c.loop-place.auto.place-end, c.loop-place-test.false, c.requires)) c.loop-place.invariant

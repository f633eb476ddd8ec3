use Rattle.std.proofs.Common.{ap, ◌∙◌}
use Rattle.std.specs.Ordering.{bool_cmp, ordering_then}
use Rattle.program_points.specs.Tables.{stack_at}
use Rattle.smtlib_print.specs.Orders.{placed_point}
use Rattle.smtlib_print.proofs.Compared.{points_decide, points_settle, spots_are}
use Rattle.smtlib_print.proofs.ordering.compare.Goals as goal

pub returns-in-Equal : goal.returns-in-Equal
returns-in-Equal c =
    let frames = c.args.frames.now in
    let x = c.args.x.now in
    let y = c.args.y.now in
    let p = c.spot.result in
    let q = c.spot-in-Equal.result in
    points_decide (placed_point frames x) (placed_point frames y) c.then.result c.compare_anchors-anchors.result c.cmp.result c.then-in-Equal.result
    c.then.ensures c.compare_anchors-anchors.ensures c.cmp.ensures c.in-Equal.is
    (c.then-in-Equal.ensures ∙ ap (λ o. ordering_then c.compare_spots.result o) c.cmp-in-Equal.ensures
    ∙ ap (λ o. ordering_then o (bool_cmp x.contract y.contract)) (c.compare_spots.ensures
    ∙ spots_are (stack_at frames p.stack) (stack_at frames x.stack) p.at x.at (stack_at frames q.stack) (stack_at frames y.stack) q.at y.at
    (ap (stack_at frames) c.spot.ensures.stack) c.spot.ensures.at (ap (stack_at frames) c.spot-in-Equal.ensures.stack) c.spot-in-Equal.ensures.at))

pub returns-in_default : goal.returns-in_default
returns-in_default c =
    points_settle (placed_point c.args.frames.now c.args.x.now) (placed_point c.args.frames.now c.args.y.now) c.then.result
    c.compare_anchors-anchors.result c.cmp.result c.then.ensures c.compare_anchors-anchors.ensures c.cmp.ensures c.in_default.not-Equal

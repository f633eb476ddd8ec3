use Rattle.std.proofs.Common.{refl, sym, subst, ◌<◌, ◌≤◌, ◌-◌, length, arith}
use Rattle.std.specs.Prelude.{Contains, sum_by}
use Rattle.std.proofs.lemmas.List.Elements.{Contains-get_or}
use Rattle.frame_laws.specs.FramePrices.{is_edge, lines_at}
use Rattle.question_form.specs.declared.unrolled.Point.{Point}
use Rattle.question_form.specs.Views.{code_of}
use Rattle.question_form.specs.FrameViews.{frame_unrolled_of, point_by, points_of}
use Rattle.unroller.proofs.Totalled.{totals_step}
use Rattle.frame_price.specs.Totals.{row_with_exit}
use Rattle.frame_price.proofs.prices.all_totals.Goals as goal

pub point_totals-requires-clause-root : goal.point_totals-requires-clause-root
point_totals-requires-clause-root c =
    let points = c.args.u.now.points.items in
    let low : c.points.i ≤ length points = c.points.invariant.below in
    let some = c.points-test.true in
    let lt : c.points.i - 1 < length points = omega arith in
    let q = c.index-point.result.now in
    c.requires.roots.points q (subst (λ (z : Point). Contains points z) (sym c.index-point.ensures) (Contains-get_or points (c.points.i - 1) q lt))

pub point_totals-requires-clause-step : goal.point_totals-requires-clause-step
point_totals-requires-clause-step c n e =
    let points = c.args.u.now.points.items in
    let low : c.points.i ≤ length points = c.points.invariant.below in
    let some = c.points-test.true in
    let lt : c.points.i - 1 < length points = omega arith in
    let q = c.index-point.result.now in
    (c.requires.steps.contracts q n (subst (λ (z : Point). Contains points z) (sym c.index-point.ensures) (Contains-get_or points (c.points.i - 1) q lt)) e).0

pub points-preserved : goal.points-preserved
points-preserved c =
    let u = c.args.u.now in
    let q = c.index-point.result.now in
    let low : c.points.i ≤ length u.points.items = c.points.invariant.below in
    let some = c.points-test.true in
    let lt : c.points.i - 1 < length u.points.items = omega arith in
    let step = totals_step (row_with_exit (frame_unrolled_of u)) (λ z. z.loads) (λ z. z.stores) (λ z. sum_by is_edge z.exits) (lines_at (frame_unrolled_of u)) u
    (λ p es. point_by u p (code_of u p) es) (points_of u) (λ p r. refl) c.points.i c.points.end q c.point_totals.result c.points.total c.add-total.result
    some low c.index-point.ensures c.points.invariant.end c.point_totals.ensures c.points.invariant.total c.add-total.ensures in
    record {
      below = omega arith;
      end = step.0;
      within = subst (λ (z : Point). z.edges ≤ length u.edges.items) (sym c.index-point.ensures) (c.requires.formed.within (c.points.i - 1) q lt);
      total = step.1;
    }

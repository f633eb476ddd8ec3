use Rattle.std.proofs.Common.{refl, sym, subst, ◌<◌, ◌≤◌, ◌-◌, length, arith}
use Rattle.std.specs.Prelude.{sum_by}
use Rattle.walk_spec.specs.Unrolled.{is_edge}
use Rattle.walk_spec.specs.Prices.{lines_at}
use Rattle.question_form.specs.declared.unrolled.Point.{Point}
use Rattle.question_form.specs.Views.{code_of, point_by, points_of, unrolled_of}
use Rattle.unroller.proofs.prices.all_totals.Goals as goal
use Rattle.unroller.proofs.Totalled.{totals_step}

pub points-preserved : goal.points-preserved
points-preserved c =
    let u = c.args.u.now in
    let q = c.index-point.result.now in
    let low : c.points.i ≤ length u.points.items = c.points.invariant.below in
    let some = c.points-test.true in
    let lt : c.points.i - 1 < length u.points.items = omega arith in
    let step = totals_step (λ z. z.row) (λ z. z.loads) (λ z. z.stores) (λ z. sum_by is_edge z.exits) (lines_at (unrolled_of u)) u
    (λ p es. point_by u p (code_of u p) es) (points_of u) (λ p r. refl) c.points.i c.points.end q c.point_totals.result c.points.total c.add-total.result
    some low c.index-point.ensures c.points.invariant.end c.point_totals.ensures c.points.invariant.total c.add-total.ensures in
    record {
      below = omega arith;
      end = step.0;
      within = subst (λ (z : Point). z.edges ≤ length u.edges.items) (sym c.index-point.ensures) (c.requires.formed.within (c.points.i - 1) q lt);
      total = step.1;
    }

use Rattle.std.proofs.Common.{◌≡◌, ◌≤◌, drop, length}
use Rattle.question_form.specs.Views.{edges_from}
use Rattle.question_form.specs.FrameViews.{frame_unrolled_of, points_of}
use Rattle.frame_price.specs.Totals.{AreTotals}
use Rattle.frame_price.proofs.prices.all_totals.Given as goal

abbrev pub invariant-points : goal.invariant-points
invariant-points l = record {
  below : l.i ≤ length l.u.points.items;
  end : l.end ≡ edges_from l.u (drop l.i l.u.points.items);
  within : l.end ≤ length l.u.edges.items;
  total : AreTotals (frame_unrolled_of l.u) (points_of l.u (drop l.i l.u.points.items)) l.total;
}

abbrev pub decreases-points : goal.decreases-points
decreases-points l = l.i

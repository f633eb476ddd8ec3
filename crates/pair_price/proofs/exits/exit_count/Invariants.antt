use Rattle.std.proofs.Common.{◌≡◌, ◌+◌, ◌≤◌, drop, length}
use Rattle.std.specs.Prelude.{filter}
use Rattle.std.specs.List.{list_any}
use Rattle.walk_spec.specs.Unrolled.{goes_out}
use Rattle.question_form.specs.Views.{edges_from, points_of}
use Rattle.pair_price.proofs.exits.exit_count.Given as goal

-- the points from a place on that may exit are counted
abbrev pub invariant-points : goal.invariant-points
invariant-points l = record {
  below : l.i ≤ length l.u.points.items;
  end : l.end ≡ edges_from l.u (drop l.i l.u.points.items);
  within : l.end ≤ length l.u.edges.items;
  count : l.count ≡ length (filter (λ q. list_any goes_out q.exits) (points_of l.u (drop l.i l.u.points.items)));
  few : l.count + l.i ≤ length l.u.points.items;
}

abbrev pub decreases-points : goal.decreases-points
decreases-points l = l.i

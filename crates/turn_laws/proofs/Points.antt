-- The points within a smaller bound on backward transfers are those within a greater one that are behind few of them.
use Rattle.std.proofs.Common.{◌≡◌, refl, ap, subst, arith, ℕ, ◌+◌, ◌≤◌, List, Bool, true, false}
use Rattle.std.specs.Prelude.{filter, nat_le, if◌then◌else◌}
use Rattle.std.proofs.lemmas.Bool.Decides.{nat_tests}
use Rattle.bilv_spec.specs.Run.{Program}
use Rattle.bilv_spec.specs.Points.{Point, IsPoint, first, next, end_of, ArePoints}
use Rattle.bilv_spec.proofs.PointsInGraph.{of_filter}
use Rattle.bilv_spec.proofs.PointSteps.{in_filter}
use Rattle.frame_laws.proofs.OnceLists.{filter_once}
use Rattle.turn_laws.specs.Raised.{PointsFall}
use Rattle.turn_laws.proofs.Prices.{points_rise}

-- an edge leads to a point that is behind no fewer backward transfers
counted : (b : Bool) (n k : ℕ) → (if b then n + 1 else n) ≤ k → n ≤ k
counted true n k h = omega (arith, h)
counted false n k h = h

le_is : (n k : ℕ) → n ≤ k → nat_le n k ≡ true
le_is n k h = grind (arith, nat_tests)

is_le : (n k : ℕ) → nat_le n k ≡ true → n ≤ k
is_le n k h = grind (arith, nat_tests)

within : (p : Program) (k m : ℕ) (point : Point) → IsPoint p m point → point.turns ≤ k → IsPoint p k point
within p k m _ first few = first
within p k m _ (next {point} {stack} {a} is edge most) few =
    next (within p k m point is (counted (nat_le a point.at) point.turns k few)) edge few

behind : (p : Program) (k : ℕ) (point : Point) → IsPoint p k point → point.turns ≤ k
behind p k _ first = omega arith
behind p k _ (next {point} {stack} {a} is edge few) = few

pub points_fall : PointsFall
points_fall p k m h points are = record {
  all = λ point is. in_filter (λ q. nat_le q.turns k) points point (are.all point (points_rise p k m h point is))
      (le_is point.turns k (behind p k point is));
  only = λ point has. (let q = of_filter (λ q. nat_le q.turns k) points point has in
      within p k m point (are.only point q.0) (is_le point.turns k q.1));
  once = filter_once (λ q. nat_le q.turns k) points are.once;
}

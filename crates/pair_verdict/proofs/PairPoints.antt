-- Points and prices of both functions, and of each.
use Rattle.std.proofs.Common.{◌≡◌, ℕ, zero, suc, ◌+◌, ◌-◌, ◌<◌, ◌≤◌, refl, subst, arith, List, [], ◌∷◌}
use Rattle.std.specs.Prelude.{length, Contains}
use Rattle.bilv_spec.specs.Run.{Program}
use Rattle.bilv_spec.specs.Points.{Point, IsPoint, first, ArePoints, HasMore, price_of}
use Rattle.bilv_spec.specs.Answers.{IsWithin, PointsReport, SizeReport, IsRightReport}
use Rattle.bilv_spec.proofs.AllPoints.{no_more_points, one_price}
use Rattle.call_spec.specs.Calls.{Budget, Count}
use Rattle.machine_spec.specs.StateText.{Layout}
use Rattle.pair_spec.specs.Links.{Link}
use Rattle.pair_spec.specs.Pairs.{HaveMore}
use Rattle.pair_spec.specs.Equals.{AreWithin}

abbrev entry_point : Program → Point
entry_point p = record { turns = 0; stack = []; at = p.entry }

is_entry : (p : Program) (k : ℕ) (q : Point) → Contains (entry_point p ∷ []) q → IsPoint p k q
is_entry p k q (zero, l, e) = subst (IsPoint p k) e first
is_entry p k q (suc i, l, e) = absurd (omega arith)

-- there is a point
pub has_one : (p : Program) (k : ℕ) → HasMore p k 0
has_one p k = (entry_point p ∷ [], omega arith, is_entry p k, λ i j l m. absurd (omega arith))

-- where there are more than some, there are more than fewer
pub more_below : (p : Program) (k m n : ℕ) → m ≤ n → HasMore p k n → HasMore p k m
more_below p k m n few (points, more, are, once) = (points, omega arith, are, once)

-- and all points are more than fewer
pub more_of_points : (p : Program) (k m : ℕ) (points : List Point) → ArePoints p k points → m < length points → HasMore p k m
more_of_points p k m points are more = (points, more, are.only, are.once)

module _ (a b : Program) (k max : ℕ) where
  -- too many of the first alone, and of the second alone
  pub first_more : 1 ≤ max → HasMore a k max → HaveMore a b k max
  first_more some more = (max - 1, 0, more_below a k (max - 1) max (omega arith) more, has_one b k, omega arith)

  pub second_more : 1 ≤ max → HasMore b k max → HaveMore a b k max
  second_more some more = (0, max - 1, has_one a k, more_below b k (max - 1) max (omega arith) more, omega arith)

  module _ (xs : List Point) (are : ArePoints a k xs) where
    -- too many of the second for what is left
    pub both_more : (left : ℕ) → 0 < length xs → length xs + left ≡ max → HasMore b k left → HaveMore a b k max
    both_more left some sum more = (length xs - 1, left, more_of_points a k (length xs - 1) xs are (omega arith), more, omega arith)

    -- few of both
    pub not_both_more : (ys : List Point) → ArePoints b k ys → length xs + length ys ≤ max → HaveMore a b k max → ⊥
    not_both_more ys all few (m, n, more, others, sum) =
        let first : length xs ≤ m → ⊥ = λ h. no_more_points a k m xs are h more in
        let second : length ys ≤ n → ⊥ = λ h. no_more_points b k n ys all h others in
        absurd (omega (arith, first, second, few, sum))

-- each function is within the budget of both
module _ (a b : Program) (links : List Link) (budget : Budget) (some : 1 ≤ budget.points) (within : AreWithin a b links budget) where
  pub first_within : IsWithin a budget
  first_within = record {
    points = λ more. within.points (first_more a b budget.unroll budget.points some more);
    price = price_of a within.is_price.first_points within.is_price.first_known within.is_price.first_runs;
    is_price = (
      within.is_price.first_points,
      within.is_price.first_known,
      within.is_price.first_runs,
      within.is_price.are_first,
      within.is_price.first_known_is,
      within.is_price.first_runs_are,
      refl,
    );
    size = let whole = within.is_price.price_is in let small = within.size in omega (arith, whole, small);
  }

  pub second_within : IsWithin b budget
  second_within = record {
    points = λ more. within.points (second_more a b budget.unroll budget.points some more);
    price = price_of b within.is_price.second_points within.is_price.second_known within.is_price.second_runs;
    is_price = (
      within.is_price.second_points,
      within.is_price.second_known,
      within.is_price.second_runs,
      within.is_price.are_second,
      within.is_price.second_known_is,
      within.is_price.second_runs_are,
      refl,
    );
    size = let whole = within.is_price.price_is in let small = within.size in omega (arith, whole, small);
  }

-- within the budget, no report says that the points or the price are too many
module _ (p : Program) (layout : Layout) (b : Budget) (within : IsWithin p b) where
  pub not_points : (n : ℕ) → IsRightReport p layout b PointsReport (Count n) → ⊥
  not_points n h = within.points h.0

  pub not_size : (n : ℕ) → IsRightReport p layout b SizeReport (Count n) → ⊥
  not_size n h =
      let same = one_price p b.unroll n within.price h.1 within.is_price in
      let small = within.size in
      let large = h.2 in
      absurd (omega (arith, same, small, large))

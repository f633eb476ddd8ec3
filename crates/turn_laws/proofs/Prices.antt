-- The points, and so the price, rise with the bound on backward transfers.
use Rattle.std.proofs.Common.{◌≡◌, ap, sym, ◌∙◌, subst, arith, ℕ, ◌+◌, ◌-◌, ◌*◌, ◌≤◌, List, ◌++◌, length}
use Rattle.std.specs.Prelude.{sum_by, map}
use Rattle.std.specs.List.{flat_map}
use Rattle.std.proofs.lemmas.List.Sums.{sum_by-append}
use Rattle.std.proofs.lemmas.Nat.{mul-le}
use Rattle.bilv_spec.specs.Run.{Program}
use Rattle.bilv_spec.specs.Notes.{Expr}
use Rattle.bilv_spec.specs.Points.{Point, first, next, ArePoints, price_of, edges, evaluated, row_price, file_row, loads_at, stores_at, line_price, bytes_loaded}
use Rattle.bilv_spec.proofs.Pigeons.{sum_within}
use Rattle.bilv_spec.proofs.AllPoints.{one_count, sum_lines}
use Rattle.turn_laws.specs.Raised.{PointsRise, PricesRise}

pub points_rise : PointsRise
points_rise p k m h _ first = first
points_rise p k m h _ (next {point} {stack} {a} is edge few) = next (points_rise p k m h point is) edge (omega (arith, few, h))

module _ (p : Program) (k m : ℕ) (h : k ≤ m) (xs ys : List Point) (a : ArePoints p k xs) (b : ArePoints p m ys) where
  pub within : (f : Point → ℕ) → sum_by f xs ≤ sum_by f ys
  within f = sum_within f xs ys a.once (λ y has. b.all y (points_rise p k m h y (a.only y has)))

  pub lines_within : (f : Expr → ℕ) (before : List Expr) → sum_by f (before ++ flat_map (evaluated p) xs) ≤ sum_by f (before ++ flat_map (evaluated p) ys)
  lines_within f before =
      let e = sum_by-append f before (flat_map (evaluated p) xs) in
      let g = sum_by-append f before (flat_map (evaluated p) ys) in
      let c = sum_lines f (evaluated p) xs in
      let d = sum_lines f (evaluated p) ys in
      let w = within (λ x. sum_by f (evaluated p x)) in omega arith

-- the price by its parts rises with each
parts_rise : (r e n l s r' e' n' l' s' known runs : ℕ) → r ≤ r' → e ≤ e' → n ≤ n' → l ≤ l' → s ≤ s' →
    1024 + r + 1280 * e + n + 128 * l + 128 * s + 64 * (l * s) + 16 * (l * e) + 32 * (l * (l - 1)) + 40 * (l * known) + 128 * (s * runs)
    ≤ 1024 + r' + 1280 * e' + n' + 128 * l' + 128 * s' + 64 * (l' * s') + 16 * (l' * e') + 32 * (l' * (l' - 1)) + 40 * (l' * known) + 128 * (s' * runs)
parts_rise r e n l s r' e' n' l' s' known runs a b c d f =
    let g = mul-le l s l' s' d f in
    let i = mul-le l e l' e' d b in
    let j = mul-le l (l - 1) l' (l' - 1) d (omega arith) in
    let q = mul-le l known l' known d (omega arith) in
    let t = mul-le s runs s' runs f (omega arith) in
    omega arith

-- the price of a list of points rises with the points
module _ (p : Program) (k m : ℕ) (h : k ≤ m) (xs ys : List Point) (a : ArePoints p k xs) (b : ArePoints p m ys) (known runs : ℕ) where
  pub prices_within : price_of p xs known runs ≤ price_of p ys known runs
  prices_within =
      let requires : List Expr = map (λ l. l.says) p.notes.requires in
      let loads = within p k m h xs ys a b (λ point. loads_at p point.at (file_row p point.at)) in
      let loaded = lines_within p k m h xs ys a b bytes_loaded requires in
      parts_rise (sum_by (λ point. row_price (file_row p point.at)) xs) (sum_by (λ point. length (edges p point)) xs)
      (sum_by line_price (requires ++ flat_map (evaluated p) xs))
      (sum_by (λ point. loads_at p point.at (file_row p point.at)) xs + sum_by bytes_loaded (requires ++ flat_map (evaluated p) xs))
      (sum_by (λ point. stores_at (file_row p point.at)) xs)
      (sum_by (λ point. row_price (file_row p point.at)) ys) (sum_by (λ point. length (edges p point)) ys)
      (sum_by line_price (requires ++ flat_map (evaluated p) ys))
      (sum_by (λ point. loads_at p point.at (file_row p point.at)) ys + sum_by bytes_loaded (requires ++ flat_map (evaluated p) ys))
      (sum_by (λ point. stores_at (file_row p point.at)) ys) known runs
      (within p k m h xs ys a b (λ point. row_price (file_row p point.at))) (within p k m h xs ys a b (λ point. length (edges p point)))
      (lines_within p k m h xs ys a b line_price requires) (omega (arith, loads, loaded))
      (within p k m h xs ys a b (λ point. stores_at (file_row p point.at)))

pub prices_rise : PricesRise
prices_rise p k m h low high (xs, known, runs, ax, kx, rx, ex) (ys, known', runs', ay, ky, ry, ey) =
    let same_known = one_count _ known' known ky kx in
    let same_runs = one_count _ runs' runs ry rx in
    let top : high ≡ price_of p ys known runs = ey ∙ ap (λ z. price_of p ys z runs') same_known ∙ ap (price_of p ys known) same_runs in
    let rise = prices_within p k m h xs ys ax ay known runs in
    subst (λ (z : ℕ). z ≤ high) (sym ex) (subst (λ (z : ℕ). price_of p xs known runs ≤ z) (sym top) rise)

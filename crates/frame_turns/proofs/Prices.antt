-- The price of a frame rises with the bound on backward transfers.
use Rattle.std.proofs.Common.{◌≡◌, ap, sym, ◌∙◌, subst, arith, ℕ, ◌+◌, ◌-◌, ◌*◌, ◌≤◌, List, ◌++◌, length, if◌then◌else◌}
use Rattle.std.specs.Prelude.{sum_by}
use Rattle.std.specs.List.{flat_map, list_any}
use Rattle.std.proofs.lemmas.List.Sums.{sum_by-append}
use Rattle.std.proofs.lemmas.Nat.{mul-le}
use Rattle.bilv_spec.specs.Notes.{Expr}
use Rattle.bilv_spec.specs.Points.{bytes_loaded, is_exit, line_price}
use Rattle.bilv_spec.proofs.AllPoints.{one_count}
use Rattle.bilv_spec.proofs.Pigeons.{sum_within}
use Rattle.frame_spec.specs.Frames.{Frame}
use Rattle.frame_spec.specs.FramePoints.{Point, ArePoints, entry_lines, evaluated, frame_edges, has_heads, own_exit, own_writes, point_loads, point_price, point_stores, price_of}
use Rattle.frame_laws.proofs.OnceLists.{flat_sum}
use Rattle.frame_turns.specs.Raised.{FramePricesRise}
use Rattle.frame_turns.proofs.AnchorCounts.{frame_points_rise}

module _ (f : Frame) (k m : ℕ) (h : k ≤ m) (xs ys : List Point) (a : ArePoints f k xs) (b : ArePoints f m ys) where
  within : (g : Point → ℕ) → sum_by g xs ≤ sum_by g ys
  within g = sum_within g xs ys a.once (λ y has. b.all y (frame_points_rise f k m h y (a.only y has)))

  lines_within : (g : Expr → ℕ) (before : List Expr) → sum_by g (before ++ flat_map (evaluated f) xs) ≤ sum_by g (before ++ flat_map (evaluated f) ys)
  lines_within g before =
      let e = sum_by-append g before (flat_map (evaluated f) xs) in
      let o = sum_by-append g before (flat_map (evaluated f) ys) in
      let c = flat_sum g (evaluated f) xs in
      let d = flat_sum g (evaluated f) ys in
      let w = within (λ x. sum_by g (evaluated f x)) in omega arith

-- the price by its parts rises with each
parts_rise : (z r e n x l s r' e' n' x' l' s' known runs writes : ℕ) → r ≤ r' → e ≤ e' → n ≤ n' → x ≤ x' → l ≤ l' → s ≤ s' →
    1024 + z + r + 1280 * e + n + x + 512 * (s * writes) + 128 * l + 128 * s + 64 * (l * s) + 16 * (l * e) + 32 * (l * (l - 1)) + 40 * (l * known)
    + 128 * (s * runs)
    ≤ 1024 + z + r' + 1280 * e' + n' + x' + 512 * (s' * writes) + 128 * l' + 128 * s' + 64 * (l' * s') + 16 * (l' * e') + 32 * (l' * (l' - 1))
    + 40 * (l' * known) + 128 * (s' * runs)
parts_rise z r e n x l s r' e' n' x' l' s' known runs writes a b c o d w =
    let g = mul-le l s l' s' d w in
    let i = mul-le l e l' e' d b in
    let j = mul-le l (l - 1) l' (l' - 1) d (omega arith) in
    let q = mul-le l known l' known d (omega arith) in
    let t = mul-le s runs s' runs w (omega arith) in
    let v = mul-le s writes s' writes w (omega arith) in
    omega arith

-- the price of a list of points rises with the points
module _ (f : Frame) (k m : ℕ) (h : k ≤ m) (xs ys : List Point) (a : ArePoints f k xs) (b : ArePoints f m ys) (known runs : ℕ) where
  abbrev lines : List Point → List Expr
  lines list = entry_lines f ++ flat_map (evaluated f) list

  abbrev loads : List Point → ℕ
  loads list = sum_by (point_loads f) list + sum_by bytes_loaded (lines list)

  abbrev exits : Point → ℕ
  exits q = own_exit f.own (list_any is_exit (frame_edges f q))

  prices_within : price_of f xs known runs ≤ price_of f ys known runs
  prices_within =
      let rows = within f k m h xs ys a b (point_loads f) in
      let loaded = lines_within f k m h xs ys a b bytes_loaded (entry_lines f) in
      parts_rise (if has_heads f then 1024 else 0) (sum_by (point_price f) xs) (sum_by (λ q. length (frame_edges f q)) xs) (sum_by line_price (lines xs))
      (sum_by exits xs) (loads xs) (sum_by (point_stores f) xs) (sum_by (point_price f) ys) (sum_by (λ q. length (frame_edges f q)) ys)
      (sum_by line_price (lines ys)) (sum_by exits ys) (loads ys) (sum_by (point_stores f) ys) known runs (own_writes f.own)
      (within f k m h xs ys a b (point_price f)) (within f k m h xs ys a b (λ q. length (frame_edges f q)))
      (lines_within f k m h xs ys a b line_price (entry_lines f)) (within f k m h xs ys a b exits) (omega (arith, rows, loaded))
      (within f k m h xs ys a b (point_stores f))

pub frame_prices_rise : FramePricesRise
frame_prices_rise f k m h low high (xs, known, runs, ax, kx, rx, ex) (ys, known', runs', ay, ky, ry, ey) =
    let same_known = one_count _ known' known ky kx in
    let same_runs = one_count _ runs' runs ry rx in
    let top : high ≡ price_of f ys known runs = ey ∙ ap (λ z. price_of f ys z runs') same_known ∙ ap (price_of f ys known) same_runs in
    let rise = prices_within f k m h xs ys ax ay known runs in
    subst (λ (z : ℕ). z ≤ high) (sym ex) (subst (λ (z : ℕ). price_of f xs known runs ≤ z) (sym top) rise)

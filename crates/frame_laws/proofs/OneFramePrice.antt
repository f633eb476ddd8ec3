-- A list of all points fixes the price of a frame.
use Rattle.std.proofs.Common.{◌≡◌, ℕ, ◌+◌, refl, ap, sym, ◌∙◌, List, [], ◌∷◌, ◌++◌, length}
use Rattle.std.specs.Prelude.{sum_by}
use Rattle.std.specs.List.{flat_map, list_any, AllZip}
use Rattle.std.proofs.lemmas.List.Sums.{sum_by-cons, sum_by-append}
use Rattle.bilv_spec.specs.Notes.{Expr}
use Rattle.bilv_spec.specs.Points.{bytes_loaded, is_exit, line_price}
use Rattle.bilv_spec.proofs.AllPoints.{one_count}
use Rattle.bilv_spec.proofs.Pigeons.{same_sum}
use Rattle.frame_spec.specs.Frames.{Frame}
use Rattle.frame_spec.specs.FramePoints.{Point, ArePoints, IsPrice, entry_lines, evaluated, frame_edges, own_exit, point_loads, point_price, point_stores, price_of}
use Rattle.frame_spec.specs.FrameReports.{ranks}
use Rattle.frame_spec.specs.FrameVerdict.{Whole, frame_of}
use Rattle.frame_laws.specs.OnePrice.{OneFramePrice, OneWholePrice}

-- a sum over the lines of the points is a sum over the points
sum_lines : (f : Expr → ℕ) (g : Point → List Expr) (xs : List Point) → sum_by f (flat_map g xs) ≡ sum_by (λ x. sum_by f (g x)) xs
sum_lines f g [] = refl
sum_lines f g (x ∷ xs) =
    sum_by-append f (g x) (flat_map g xs) ∙ ap (λ z. sum_by f (g x) + z) (sum_lines f g xs) ∙ sym (sum_by-cons (λ x. sum_by f (g x)) x xs)

module _ (f : Frame) (k : ℕ) (xs ys : List Point) (a : ArePoints f k xs) (b : ArePoints f k ys) where
  same : (g : Point → ℕ) → sum_by g xs ≡ sum_by g ys
  same g = same_sum g xs ys a.once b.once (λ y h. b.all y (a.only y h)) (λ y h. a.all y (b.only y h))

  same_lines : (g : Expr → ℕ) (before : List Expr) → sum_by g (before ++ flat_map (evaluated f) xs) ≡ sum_by g (before ++ flat_map (evaluated f) ys)
  same_lines g before =
      sum_by-append g before (flat_map (evaluated f) xs)
      ∙ ap (λ z. sum_by g before + z) (sum_lines g (evaluated f) xs ∙ same (λ x. sum_by g (evaluated f x)) ∙ sym (sum_lines g (evaluated f) ys))
      ∙ sym (sum_by-append g before (flat_map (evaluated f) ys))

  same_price : (known runs : ℕ) → price_of f xs known runs ≡ price_of f ys known runs
  same_price known runs =
      rw (
        same (λ q. length (frame_edges f q)),
        same (point_loads f),
        same (point_stores f),
        same (point_price f),
        same (λ q. own_exit f.own (list_any is_exit (frame_edges f q))),
        same_lines line_price (entry_lines f),
        same_lines bytes_loaded (entry_lines f),
      ) refl

pub one_frame_price : OneFramePrice
one_frame_price f k a b (xs, known, runs, ax, kx, rx, ex) (ys, known', runs', ay, ky, ry, ey) =
    let same_known = one_count _ known known' kx ky in
    let same_runs = one_count _ runs runs' rx ry in
    ex ∙ same_price f k xs ys ax ay known runs ∙ ap (λ z. price_of f ys z runs) same_known ∙ ap (price_of f ys known') same_runs ∙ sym ey

-- so are the prices of all frames, and their sum
same_prices : (w : Whole) (k : ℕ) (ns xs ys : List ℕ) → AllZip (λ rank n. IsPrice (frame_of w rank) k n) ns xs →
    AllZip (λ rank n. IsPrice (frame_of w rank) k n) ns ys → xs ≡ ys
same_prices w k [] [] [] a b = refl
same_prices w k [] [] (y ∷ ys) a b = absurd b
same_prices w k [] (x ∷ xs) ys a b = absurd a
same_prices w k (n ∷ ns) [] ys a b = absurd a
same_prices w k (n ∷ ns) (x ∷ xs) [] a b = absurd b
same_prices w k (n ∷ ns) (x ∷ xs) (y ∷ ys) a b =
    ap (λ z. z ∷ xs) (one_frame_price (frame_of w n) k x y a.0 b.0) ∙ ap (λ (zs : List ℕ). y ∷ zs) (same_prices w k ns xs ys a.1 b.1)

pub one_whole_price : OneWholePrice
one_whole_price w k a b (xs, ax, ex) (ys, ay, ey) =
    ex ∙ ap (λ (zs : List ℕ). sum_by (λ n. n) zs) (same_prices w k (ranks w) xs ys ax ay) ∙ sym ey

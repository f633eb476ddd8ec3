-- A list of all points leaves no room for more, and fixes the price.
use Rattle.std.proofs.Common.{◌≡◌, ℕ, ◌+◌, ◌≤◌, ◌<◌, refl, ap, sym, ◌∙◌, arith, List, [], ◌∷◌, ◌++◌, length, Bool}
use Rattle.std.specs.Prelude.{slice_index, sum_by, map}
use Rattle.std.specs.List.{flat_map}
use Rattle.std.proofs.lemmas.Option.{slice_get-get_or}
use Rattle.std.proofs.lemmas.List.Sums.{sum_by-cons, sum_by-append}
use Rattle.bilv_spec.specs.Run.{Program}
use Rattle.bilv_spec.specs.Notes.{Expr}
use Rattle.bilv_spec.specs.Points.{Point, ArePoints, HasMore, IsPrice, IsCount, price_of, edges, evaluated, row_price, file_row, loads_at, stores_at, line_price, bytes_loaded}
use Rattle.bilv_spec.proofs.Pigeons.{Once, no_longer, same_sum}

nowhere : Point
nowhere = record { turns = 0; stack = []; at = 0 }

pub no_more_points : (p : Program) (k max : ℕ) (points : List Point) → ArePoints p k points → length points ≤ max → ¬ HasMore p k max
no_more_points p k max xs are small (ys, big, points, once) =
    let h = no_longer xs ys (λ y q. are.all y (points y q)) once nowhere in absurd (omega arith)

-- numbers that rise are distinct
rising_once : (xs : List ℕ) → ((i j : ℕ) → i < j → j < length xs → slice_index xs i < slice_index xs j) → Once xs
rising_once xs rise i j l h e =
    let r = rise i j l h in
    let a = slice_get-get_or xs i 0 (omega arith) in
    let b = slice_get-get_or xs j 0 h in
    let same : slice_index xs i ≡ slice_index xs j = cc in
    absurd (omega arith)

pub one_count : (test : ℕ → Bool) (n m : ℕ) → IsCount test n → IsCount test m → n ≡ m
one_count test n m (xs, lx, rx, cx) (ys, ly, ry, cy) =
    let a = no_longer xs ys (λ y h. (cx y).1 ((cy y).0 h)) (rising_once ys ry) 0 in
    let b = no_longer ys xs (λ y h. (cy y).1 ((cx y).0 h)) (rising_once xs rx) 0 in
    omega arith

-- a sum over the lines of the points is a sum over the points
pub sum_lines : (f : Expr → ℕ) (g : Point → List Expr) (xs : List Point) → sum_by f (flat_map g xs) ≡ sum_by (λ x. sum_by f (g x)) xs
sum_lines f g [] = refl
sum_lines f g (x ∷ xs) =
    sum_by-append f (g x) (flat_map g xs) ∙ ap (λ z. sum_by f (g x) + z) (sum_lines f g xs) ∙ sym (sum_by-cons (λ x. sum_by f (g x)) x xs)

module _ (p : Program) (k : ℕ) (xs ys : List Point) (a : ArePoints p k xs) (b : ArePoints p k ys) where
  same : (f : Point → ℕ) → sum_by f xs ≡ sum_by f ys
  same f = same_sum f xs ys a.once b.once (λ y h. b.all y (a.only y h)) (λ y h. a.all y (b.only y h))

  same_lines : (f : Expr → ℕ) (before : List Expr) → sum_by f (before ++ flat_map (evaluated p) xs) ≡ sum_by f (before ++ flat_map (evaluated p) ys)
  same_lines f before =
      sum_by-append f before (flat_map (evaluated p) xs)
      ∙ ap (λ z. sum_by f before + z) (sum_lines f (evaluated p) xs ∙ same (λ x. sum_by f (evaluated p x)) ∙ sym (sum_lines f (evaluated p) ys))
      ∙ sym (sum_by-append f before (flat_map (evaluated p) ys))

  same_price : (known runs : ℕ) → price_of p xs known runs ≡ price_of p ys known runs
  same_price known runs =
      let requires : List Expr = map (λ l. l.says) p.notes.requires in
      rw (
        same (λ point. length (edges p point)),
        same (λ point. loads_at p point.at (file_row p point.at)),
        same (λ point. stores_at (file_row p point.at)),
        same (λ point. row_price (file_row p point.at)),
        same_lines line_price requires,
        same_lines bytes_loaded requires,
      ) refl

pub one_price : (p : Program) (k a b : ℕ) → IsPrice p k a → IsPrice p k b → a ≡ b
one_price p k a b (xs, known, runs, ax, kx, rx, ex) (ys, known', runs', ay, ky, ry, ey) =
    let same_known = one_count _ known known' kx ky in
    let same_runs = one_count _ runs runs' rx ry in
    ex ∙ same_price p k xs ys ax ay known runs ∙ ap (λ z. price_of p ys z runs) same_known ∙ ap (price_of p ys known') same_runs ∙ sym ey

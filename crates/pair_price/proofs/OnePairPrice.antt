-- There is one price of two programs with links.
use Rattle.std.proofs.Common.{◌≡◌, refl, ap, sym, ◌∙◌, arith, ℕ, ◌+◌, ◌*◌, List, [], ◌∷◌, ◌++◌, Bool, true, false, length}
use Rattle.std.specs.Prelude.{filter, if◌then◌else◌, map, sum_by}
use Rattle.std.specs.List.{flat_map, list_any}
use Rattle.std.proofs.lemmas.List.Sums.{sum_by-cons, sum_by-append}
use Rattle.bilv_spec.specs.Run.{Program}
use Rattle.bilv_spec.specs.Points.{Point, ArePoints, IsCount, begins_run, bytes_loaded, edges, evaluated, file_row, is_exit, is_known_at, loads_at, price_of, stores_at}
use Rattle.bilv_spec.specs.Evidence.{loads_among}
use Rattle.bilv_spec.proofs.AllPoints.{one_count, one_price, sum_lines}
use Rattle.bilv_spec.proofs.Pigeons.{same_sum}
use Rattle.pair_spec.specs.Links.{Link}
use Rattle.pair_spec.specs.Pairs.{IsPairPrice, added_price, exit_points, links_price, same_bytes, shared_bytes, side_price}

one_more : (b : Bool) (n : ℕ) (x : Point) (xs : List Point) → length xs ≡ n → length (if b then x ∷ xs else xs) ≡ (if b then 1 else 0) + n
one_more true n x xs e = omega (arith, e)
one_more false n x xs e = omega (arith, e)

as_sum : (f : Point → Bool) (xs : List Point) → length (filter f xs) ≡ sum_by (λ x. if f x then 1 else 0) xs
as_sum f [] = refl
as_sum f (x ∷ xs) =
    one_more (f x) (sum_by (λ x. if f x then 1 else 0) xs) x (filter f xs) (as_sum f xs) ∙ sym (sum_by-cons (λ x. if f x then 1 else 0) x xs)

module _ (p : Program) (k : ℕ) (links : List Link) (xs ys : List Point) (a : ArePoints p k xs) (b : ArePoints p k ys) where
  same : (f : Point → ℕ) → sum_by f xs ≡ sum_by f ys
  same f = same_sum f xs ys a.once b.once (λ y h. b.all y (a.only y h)) (λ y h. a.all y (b.only y h))

  same_exits : exit_points p xs ≡ exit_points p ys
  same_exits =
      as_sum (λ q. list_any is_exit (edges p q)) xs ∙ same (λ x. if list_any is_exit (edges p x) then 1 else 0)
      ∙ sym (as_sum (λ q. list_any is_exit (edges p q)) ys)

  same_loads : loads_among p xs ≡ loads_among p ys
  same_loads =
      ap (λ z. z + sum_by bytes_loaded (map (λ l. l.says) p.notes.requires ++ flat_map (evaluated p) xs)) (same (λ point. loads_at p point.at (file_row p point.at)))
      ∙ ap (λ z. sum_by (λ point. loads_at p point.at (file_row p point.at)) ys + z) (
      sum_by-append bytes_loaded (map (λ l. l.says) p.notes.requires) (flat_map (evaluated p) xs)
      ∙ ap (λ z. sum_by bytes_loaded (map (λ l. l.says) p.notes.requires) + z)
      (sum_lines bytes_loaded (evaluated p) xs ∙ same (λ x. sum_by bytes_loaded (evaluated p x)) ∙ sym (sum_lines bytes_loaded (evaluated p) ys))
      ∙ sym (sum_by-append bytes_loaded (map (λ l. l.says) p.notes.requires) (flat_map (evaluated p) ys))
      )

  abbrev stores : List Point → ℕ
  stores points = sum_by (λ q. stores_at (file_row p q.at)) points

  abbrev ends : List Point → ℕ
  ends points = sum_by (λ q. length (edges p q)) points

  -- what is paid for the links, by the exits and loads
  abbrev added : (known loads exits stores ends : ℕ) → ℕ
  added known loads exits stores ends = added_price (shared_bytes links + same_bytes links * exits) loads stores ends known

  -- the price of a side, whatever the order of its points
  one_side : (known runs more less : ℕ) → IsCount (is_known_at p) known → IsCount (begins_run p) runs → IsCount (is_known_at p) more → IsCount (begins_run p) less →
      side_price links p xs known runs ≡ side_price links p ys more less
  one_side known runs more less kx rx ky ry =
      ap (λ z. z + added known (loads_among p xs) (exit_points p xs) (stores xs) (ends xs))
      (one_price p k (price_of p xs known runs) (price_of p ys more less) (xs, known, runs, a, kx, rx, refl) (ys, more, less, b, ky, ry, refl))
      ∙ ap (λ z. price_of p ys more less + added known (loads_among p xs) z (stores xs) (ends xs)) same_exits
      ∙ ap (λ z. price_of p ys more less + added known z (exit_points p ys) (stores xs) (ends xs)) same_loads
      ∙ ap (λ z. price_of p ys more less + added known (loads_among p ys) (exit_points p ys) z (ends xs)) (same (λ q. stores_at (file_row p q.at)))
      ∙ ap (λ z. price_of p ys more less + added known (loads_among p ys) (exit_points p ys) (stores ys) z) (same (λ q. length (edges p q)))
      ∙ ap (λ z. price_of p ys more less + added z (loads_among p ys) (exit_points p ys) (stores ys) (ends ys)) (one_count (is_known_at p) known more kx ky)

pub one_pair_price : (a b : Program) (k : ℕ) (links : List Link) (n m : ℕ) → IsPairPrice a b k links n → IsPairPrice a b k links m → n ≡ m
one_pair_price a b k links n m x y =
    x.price_is
    ∙ ap (λ z. z + side_price links b x.second_points x.second_known x.second_runs + links_price links)
    (one_side a k links x.first_points y.first_points x.are_first y.are_first x.first_known x.first_runs y.first_known y.first_runs x.first_known_is x.first_runs_are
    y.first_known_is y.first_runs_are)
    ∙ ap (λ z. side_price links a y.first_points y.first_known y.first_runs + z + links_price links)
    (one_side b k links x.second_points y.second_points x.are_second y.are_second x.second_known x.second_runs y.second_known y.second_runs x.second_known_is
    x.second_runs_are y.second_known_is y.second_runs_are)
    ∙ sym y.price_is

-- The price of an unrolled program with the loads of links is that of its side.
use Rattle.std.proofs.Common.{◌≡◌, ap, sym, ◌∙◌, arith, ℕ, zero, suc, ◌+◌, ◌-◌, ◌*◌, ◌^◌, ◌<◌, List, length}
use Rattle.std.specs.Prelude.{map, sum_by}
use Rattle.bilv_spec.specs.Run.{Program}
use Rattle.bilv_spec.specs.Points.{Point, file_row, stores_at, price_of, bytes_loaded, loads_at}
use Rattle.bilv_spec.specs.Evidence.{loads_among}
use Rattle.walk_spec.specs.Unrolled.{UnrolledProgram}
use Rattle.walk_spec.specs.Unrolling.{IsUnrolling}
use Rattle.walk_spec.specs.Prices.{cell_price, unrolled_price, loads_of, stores_of, edges_of, known_of, lines_of}
use Rattle.walk_spec.proofs.PriceLaw.{same_price, load_sum, line_list, store_sum, end_sum, out_count}
use Rattle.pair_spec.specs.Links.{Link}
use Rattle.pair_spec.specs.Pairs.{IsPairPrice, added_price, linked_loads, links_price, same_bytes, shared_bytes, side_price}
use Rattle.pair_spec.specs.PairTerms.{added_loads}
use Rattle.unroller.specs.LineCosts.{capped}
use Rattle.unroller.specs.More.{price_with}

-- products of sums
square_of : (m x : ℕ) → (suc m + x) * (m + x) ≡ suc m * m + x * (2 * m + 1 + x)
square_of m x = grind arith

product_of : (l x s : ℕ) → (l + x) * s ≡ l * s + x * s
product_of l x s = grind arith

-- two loads of a list that is longer by some
pairs_of : (l x : ℕ) → (l + x) * (l + x - 1) ≡ l * (l - 1) + x * (2 * l + x - 1)
pairs_of zero x =
    let a : 0 + x ≡ x = omega arith in
    let b : 2 * 0 + x - 1 ≡ x - 1 = omega arith in
    let d : x * (x - 1) ≡ 0 + x * (x - 1) = omega arith in
    ap (λ z. z * (z - 1)) a ∙ d ∙ ap (λ z. 0 + x * z) (sym b)
pairs_of (suc m) x =
    let e : suc m + x - 1 ≡ m + x = omega arith in
    let f : suc m - 1 ≡ m = omega arith in
    let g : 2 * suc m + x - 1 ≡ 2 * m + 1 + x = omega arith in
    ap (λ z. (suc m + x) * z) e ∙ square_of m x ∙ ap (λ z. suc m * z + x * (2 * m + 1 + x)) (sym f) ∙ ap (λ z. suc m * (suc m - 1) + x * z) (sym g)

-- what more loads pay for
more_loads : (l x s e k : ℕ) → cell_price (l + x) s e k ≡ cell_price l s e k + added_price x l s e k
more_loads l x s e k =
    let a = product_of l x s in let b = product_of l x e in let c = product_of l x k in let d = pairs_of l x in omega arith

with_more : (u : UnrolledProgram) (x : ℕ) → price_with u x ≡ unrolled_price u + added_price x (loads_of u) (stores_of u) (edges_of u) (known_of u)
with_more u x = let m = more_loads (loads_of u) x (stores_of u) (edges_of u) (known_of u) in omega arith

module _ (p : Program) (k : ℕ) (links : List Link) (u : UnrolledProgram) (un : IsUnrolling p k u) where
  abbrev points : List Point
  points = map (λ q. q.point) u.points

  loads_are : loads_of u ≡ loads_among p points
  loads_are =
      ap (λ z. z + sum_by bytes_loaded (lines_of u)) (load_sum p k u un)
      ∙ ap (λ z. sum_by (λ (x : Point). loads_at p x.at (file_row p x.at)) points + sum_by bytes_loaded z) (line_list p k u un)

  added_are : added_loads links u ≡ linked_loads links p points
  added_are = ap (λ z. shared_bytes links + same_bytes links * z) (out_count p k u un)

  pub side_is : price_with u (added_loads links u) ≡ side_price links p points (known_of u) (length u.kept)
  side_is =
      with_more u (added_loads links u)
      ∙ ap (λ z. z + added_price (added_loads links u) (loads_of u) (stores_of u) (edges_of u) (known_of u)) (same_price p k u un)
      ∙ ap (λ z. price_of p points (known_of u) (length u.kept) + added_price z (loads_of u) (stores_of u) (edges_of u) (known_of u)) added_are
      ∙ ap (λ z. price_of p points (known_of u) (length u.kept) + added_price (linked_loads links p points) z (stores_of u) (edges_of u) (known_of u)) loads_are
      ∙ ap (λ z. price_of p points (known_of u) (length u.kept) + added_price (linked_loads links p points) (loads_among p points) z (edges_of u) (known_of u))
      (store_sum p k u un)
      ∙ ap (λ z. price_of p points (known_of u) (length u.kept)
      + added_price (linked_loads links p points) (loads_among p points) (sum_by (λ q. stores_at (file_row p q.at)) points) z (known_of u)) (end_sum p k u un)

-- the price of both
abbrev pub both : List Link → UnrolledProgram → UnrolledProgram → ℕ
both links u w = price_with u (added_loads links u) + price_with w (added_loads links w) + links_price links

pub both_is : (a b : Program) (k : ℕ) (links : List Link) (u w : UnrolledProgram) → IsUnrolling a k u → IsUnrolling b k w →
    IsPairPrice a b k links (both links u w)
both_is a b k links u w one two = record {
  first_points = map (λ q. q.point) u.points;
  second_points = map (λ q. q.point) w.points;
  first_known = known_of u;
  first_runs = length u.kept;
  second_known = known_of w;
  second_runs = length w.kept;
  are_first = one.points;
  are_second = two.points;
  first_known_is = one.known_bytes;
  first_runs_are = one.kept_runs;
  second_known_is = two.known_bytes;
  second_runs_are = two.kept_runs;
  price_is = ap (λ z. z + price_with w (added_loads links w) + links_price links) (side_is a k links u one)
      ∙ ap (λ z. side_price links a (map (λ q. q.point) u.points) (known_of u) (length u.kept) + z + links_price links) (side_is b k links w two);
}

-- numbers of 128 bits
pub both_are : (x y z a b c s : ℕ) → a ≡ capped x → b ≡ capped y → c ≡ capped z → s ≡ capped (a + b) → capped (s + c) ≡ capped (x + y + z)
both_are x y z a b c s p q r t = omega (arith, p, q, r, t)

pub uncapped : (x r : ℕ) → r ≡ capped x → r < 2 ^ 128 - 1 → x ≡ r
uncapped x r e small = omega (arith, e, small)

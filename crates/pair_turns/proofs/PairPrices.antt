-- The price of two functions rises with the bound on backward transfers, so that those within the budgets are within them for every smaller bound.
use Rattle.std.proofs.Common.{[], ◌≡◌, Bool, ap, sym, ◌∙◌, subst, arith, ℕ, ◌+◌, ◌-◌, ◌*◌, ◌≤◌, List, ◌++◌, length, refl}
use Rattle.std.specs.Prelude.{filter, map, nat_le, sum_by}
use Rattle.std.specs.List.{list_any}
use Rattle.std.proofs.lemmas.Nat.{mul-le}
use Rattle.bilv_spec.specs.Run.{Program}
use Rattle.bilv_spec.specs.Notes.{Expr}
use Rattle.bilv_spec.specs.Evidence.{loads_among}
use Rattle.bilv_spec.specs.Points.{Point, ArePoints, HasMore, IsCount, begins_run, bytes_loaded, edges, file_row, is_exit, is_known_at, loads_at, price_of, stores_at}
use Rattle.bilv_spec.proofs.AllPoints.{one_count}
use Rattle.bilv_spec.proofs.Pigeons.{no_longer}
use Rattle.bilv_spec.proofs.PointsInGraph.{of_filter}
use Rattle.bilv_spec.proofs.PointSteps.{in_filter}
use Rattle.call_spec.specs.Calls.{Budget}
use Rattle.frame_laws.proofs.OnceLists.{filter_once}
use Rattle.pair_spec.specs.Equals.{AreWithin}
use Rattle.pair_spec.specs.Links.{Link}
use Rattle.pair_spec.specs.Pairs.{HaveMore, IsPairPrice, added_price, exit_points, linked_loads, links_price, same_bytes, shared_bytes, side_price}
use Rattle.turn_laws.proofs.Points.{points_fall}
use Rattle.turn_laws.proofs.Prices.{lines_within, points_rise, prices_within, within}
use Rattle.pair_turns.specs.PairsRaised.{PairPricesRise, WithinFalls}

-- what is paid for the links rises with each of its parts
added_rise : (x l s e x' l' s' e' known : ℕ) → x ≤ x' → l ≤ l' → s ≤ s' → e ≤ e' → added_price x l s e known ≤ added_price x' l' s' e' known
added_rise x l s e x' l' s' e' known a b c d =
    let f = mul-le x s x' s' a c in
    let g = mul-le x e x' e' a d in
    let i = mul-le x (2 * l + x - 1) x' (2 * l' + x' - 1) a (omega arith) in
    let j = mul-le x known x' known a (omega arith) in
    omega arith

module _ (p : Program) (k m : ℕ) (h : k ≤ m) (links : List Link) (xs ys : List Point) (a : ArePoints p k xs) (b : ArePoints p m ys) where
  abbrev leaves : Point → Bool
  leaves q = list_any is_exit (edges p q)

  exits_rise : exit_points p xs ≤ exit_points p ys
  exits_rise =
      no_longer (filter leaves ys) (filter leaves xs) (λ y has. (let q = of_filter leaves xs y has in
      in_filter leaves ys y (b.all y (points_rise p k m h y (a.only y q.0))) q.1)) (filter_once leaves xs a.once) (record { turns = 0; stack = []; at = 0 })

  loads_rise : loads_among p xs ≤ loads_among p ys
  loads_rise =
      let row = within p k m h xs ys a b (λ point. loads_at p point.at (file_row p point.at)) in
      let lines = lines_within p k m h xs ys a b bytes_loaded (map (λ l. l.says) p.notes.requires) in
      omega (arith, row, lines)

  linked_rise : linked_loads links p xs ≤ linked_loads links p ys
  linked_rise =
      let more = mul-le (same_bytes links) (exit_points p xs) (same_bytes links) (exit_points p ys) (omega arith) exits_rise in omega (arith, more)

  -- the price of a side
  pub side_rises : (known runs : ℕ) → side_price links p xs known runs ≤ side_price links p ys known runs
  side_rises known runs =
      let whole = prices_within p k m h xs ys a b known runs in
      let added = added_rise (linked_loads links p xs) (loads_among p xs) (sum_by (λ q. stores_at (file_row p q.at)) xs) (sum_by (λ q. length (edges p q)) xs)
      (linked_loads links p ys) (loads_among p ys) (sum_by (λ q. stores_at (file_row p q.at)) ys) (sum_by (λ q. length (edges p q)) ys) known
      linked_rise loads_rise (within p k m h xs ys a b (λ q. stores_at (file_row p q.at))) (within p k m h xs ys a b (λ q. length (edges p q))) in
      omega (arith, whole, added)

-- counted otherwise
side_counted : (p : Program) (links : List Link) (xs : List Point) (known runs known' runs' : ℕ) → IsCount (is_known_at p) known → IsCount (begins_run p) runs →
    IsCount (is_known_at p) known' → IsCount (begins_run p) runs' → side_price links p xs known runs ≡ side_price links p xs known' runs'
side_counted p links xs known runs known' runs' a b c d =
    ap (λ z. side_price links p xs z runs) (one_count (is_known_at p) known known' a c)
    ∙ ap (side_price links p xs known') (one_count (begins_run p) runs runs' b d)

pub pair_prices_rise : PairPricesRise
pair_prices_rise a b k m h links low high x y =
    let first = side_rises a k m h links x.first_points y.first_points x.are_first y.are_first x.first_known x.first_runs in
    let second = side_rises b k m h links x.second_points y.second_points x.are_second y.are_second x.second_known x.second_runs in
    let one = side_counted a links y.first_points x.first_known x.first_runs y.first_known y.first_runs x.first_known_is x.first_runs_are y.first_known_is
    y.first_runs_are in
    let two = side_counted b links y.second_points x.second_known x.second_runs y.second_known y.second_runs x.second_known_is x.second_runs_are
    y.second_known_is y.second_runs_are in
    let least = x.price_is in
    let most = y.price_is in
    omega (arith, first, second, one, two, least, most)

-- the points of a side that are behind few backward transfers
abbrev few_of : ℕ → List Point → List Point
few_of k xs = filter (λ q. nat_le q.turns k) xs

-- a price within a greater bound gives one within a smaller
priced : (a b : Program) (k m : ℕ) → k ≤ m → (links : List Link) (price : ℕ) → IsPairPrice a b m links price → (low : ℕ) × IsPairPrice a b k links low
priced a b k m h links price y = (
  side_price links a (few_of k y.first_points) y.first_known y.first_runs + side_price links b (few_of k y.second_points) y.second_known y.second_runs
      + links_price links,
  record {
    first_points = few_of k y.first_points;
    second_points = few_of k y.second_points;
    first_known = y.first_known;
    first_runs = y.first_runs;
    second_known = y.second_known;
    second_runs = y.second_runs;
    are_first = points_fall a k m h y.first_points y.are_first;
    are_second = points_fall b k m h y.second_points y.are_second;
    first_known_is = y.first_known_is;
    first_runs_are = y.first_runs_are;
    second_known_is = y.second_known_is;
    second_runs_are = y.second_runs_are;
    price_is = refl;
  },
)

more_rises : (p : Program) (k m max : ℕ) → k ≤ m → HasMore p k max → HasMore p m max
more_rises p k m max h (points, long, are, once) = (points, long, λ q has. points_rise p k m h q (are q has), once)

pub within_falls : WithinFalls
within_falls a b links budget k h is =
    let low = priced a b k budget.unroll h links is.price is.is_price in
    record {
      points = λ (n, o, more, others, sum). is.points (n, o, more_rises a k budget.unroll n h more, more_rises b k budget.unroll o h others, sum);
      price = low.0;
      is_price = low.1;
      size = (let rise = pair_prices_rise a b k budget.unroll h links low.0 is.price low.1 is.is_price in let small = is.size in omega (arith, rise, small));
    }

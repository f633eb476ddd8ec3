-- What the clauses of one side have is within the price of the side.
use Rattle.std.proofs.Common.{◌≡◌, ap, sym, ◌∙◌, arith, ℕ, zero, suc, ◌+◌, ◌-◌, ◌*◌, ◌≤◌, [], List, Bool, length}
use Rattle.std.specs.Prelude.{map, sum_by}
use Rattle.bilv_spec.specs.Run.{Program}
use Rattle.bilv_spec.specs.Points.{Point, file_row, stores_at, price_of}
use Rattle.bilv_spec.specs.Evidence.{loads_among}
use Rattle.walk_spec.specs.Unrolled.{UnrolledProgram}
use Rattle.walk_spec.specs.Unrolling.{IsUnrolling}
use Rattle.walk_spec.specs.Prices.{term_price, cell_price, unrolled_price, loads_of, stores_of, edges_of, known_of}
use Rattle.term_spec.specs.Cells.{Cells}
use Rattle.term_spec.specs.ClauseForm.{inputs}
use Rattle.term_spec.specs.Terms.{term_gates}
use Rattle.walk_spec.proofs.PriceLaw.{same_price, store_sum, end_sum, out_count}
use Rattle.term_spec.proofs.PriceSums.{cells_within}
use Rattle.walk_laws.proofs.InputsWithin.{first_within}
use Rattle.walk_laws.proofs.QuestionClauses.{loads_same}
use Rattle.pair_spec.specs.Links.{Link, asking}
use Rattle.call_spec.specs.Calls.{PairQuestion}
use Rattle.pair_spec.specs.Pairs.{added_price, linked_loads, same_bytes, shared_bytes, side_price}
use Rattle.pair_spec.specs.PairTerms.{SideTerm, SideCells, added_loads}
use Rattle.pair_spec.specs.PairLayers.{IsPairSide}

-- products of sums
square_of : (m x : ℕ) → (suc m + x) * (m + x) ≡ suc m * m + x * (2 * m + 1 + x)
square_of m x = grind arith

product_of : (l x s : ℕ) → (l + x) * s ≡ l * s + x * s
product_of l x s = grind arith

-- two loads of a list that is longer by some
pairs_of : (l x : ℕ) → (l + x) * (l + x - 1) ≡ l * (l - 1) + x * (2 * l + x - 1)
pairs_of zero x =
    let a : 0 + x ≡ x = omega arith in
    let b : 2 * 0 + x - 1 ≡ x - 1 = omega arith in
    let d : x * (x - 1) ≡ 0 + x * (x - 1) = omega arith in
    ap (λ z. z * (z - 1)) a ∙ d ∙ ap (λ z. 0 + x * z) (sym b)
pairs_of (suc m) x =
    let e : suc m + x - 1 ≡ m + x = omega arith in
    let f : suc m - 1 ≡ m = omega arith in
    let g : 2 * suc m + x - 1 ≡ 2 * m + 1 + x = omega arith in
    ap (λ z. (suc m + x) * z) e ∙ square_of m x ∙ ap (λ z. suc m * z + x * (2 * m + 1 + x)) (sym f) ∙ ap (λ z. suc m * (suc m - 1) + x * z) (sym g)

-- what more loads pay for
more_loads : (l x s e k : ℕ) → cell_price (l + x) s e k ≡ cell_price l s e k + added_price x l s e k
more_loads l x s e k =
    let a = product_of l x s in let b = product_of l x e in let c = product_of l x k in let d = pairs_of l x in omega arith

module _ (p : Program) (k : ℕ) (side : Bool) (links : List Link) (question : PairQuestion) (asked : ℕ → Bool) (u : UnrolledProgram)
    (t : SideTerm) (c : SideCells) (layered : IsPairSide p k side links question asked u t c) where
  abbrev un : IsUnrolling (asking side links p) k u
  un = layered.unrolling

  abbrev pub points : List Point
  points = map (λ q. q.point) u.points

  abbrev no_reads : Cells
  no_reads = record c.cells { addresses = [] }

  pub loads_are : loads_of u ≡ loads_among p points
  loads_are = loads_same (asking side links p) k u un no_reads (omega arith)

  pub added_are : added_loads links u ≡ linked_loads links p points
  added_are = ap (λ z. shared_bytes links + same_bytes links * z) (out_count (asking side links p) k u un)

  -- the price of the side
  abbrev pub price : ℕ
  price = unrolled_price u + added_price (added_loads links u) (loads_of u) (stores_of u) (edges_of u) (known_of u)

  pub price_is : price ≡ side_price links p points (known_of u) (length u.kept)
  price_is =
      ap (λ z. z + added_price (added_loads links u) (loads_of u) (stores_of u) (edges_of u) (known_of u)) (same_price (asking side links p) k u un)
      ∙ ap (λ z. price_of p points (known_of u) (length u.kept) + added_price z (loads_of u) (stores_of u) (edges_of u) (known_of u)) added_are
      ∙ ap (λ z. price_of p points (known_of u) (length u.kept) + added_price (linked_loads links p points) z (stores_of u) (edges_of u) (known_of u)) loads_are
      ∙ ap (λ z. price_of p points (known_of u) (length u.kept) + added_price (linked_loads links p points) (loads_among p points) z (edges_of u) (known_of u))
      (store_sum (asking side links p) k u un)
      ∙ ap (λ z. price_of p points (known_of u) (length u.kept)
      + added_price (linked_loads links p points) (loads_among p points) (sum_by (λ q. stores_at (file_row p q.at)) points) z (known_of u))
      (end_sum (asking side links p) k u un)

  cells_price : unrolled_price u + added_price (added_loads links u) (loads_of u) (stores_of u) (edges_of u) (known_of u)
      ≡ term_price u + cell_price (loads_of u + added_loads links u) (stores_of u) (edges_of u) (known_of u)
  cells_price = let m = more_loads (loads_of u) (added_loads links u) (stores_of u) (edges_of u) (known_of u) in omega arith

  -- the inputs are within it
  pub inputs_fit : inputs u c.cells ≤ price
  inputs_fit =
      let a = first_within u layered.fitting (λ i l. (un.places i l).terms) in
      let b = layered.cells.reads in
      let d = cells_price in
      omega arith

  -- and so are the gates, one more, and the bits of base reads
  pub gates_fit : 1 + term_gates c.cells.nodes + 8 * length c.cells.addresses ≤ price
  gates_fit =
      let a = layered.term.terms.gates in
      let b = layered.cells.gates in
      let d = layered.cells.reads in
      let e = cells_within (loads_of u + added_loads links u) (stores_of u) (edges_of u) (known_of u) in
      let f = cells_price in
      omega arith

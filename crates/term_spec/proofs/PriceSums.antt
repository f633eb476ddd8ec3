-- The parts of the price add up, and the cells are within theirs.
use Rattle.std.proofs.Common.{◌≡◌, arith, ℕ, ◌+◌, ◌*◌, ◌<◌, ◌≤◌}
use Rattle.std.proofs.lemmas.List.Sums.{sum_by-append}
use Rattle.bilv_spec.specs.Points.{line_price, bytes_loaded}
use Rattle.walk_spec.specs.Unrolled.{UnrolledProgram}
use Rattle.walk_spec.specs.Prices.{entry_lines, point_lines, term_price, loads_of, stores_of, edges_of, known_of, cell_price, unrolled_price, line_size, PartsAddUp}
use Rattle.term_spec.specs.Cells.{cell_gates}

-- the products of a distributive law
times_sum : (l e s : ℕ) → l * (e + 2 * s) ≡ l * e + 2 * (l * s)
times_sum l e s = grind arith

-- the gates of cells and the eight bits of each base read are within the part of the price that pays for memory
pub cells_within : (l s e k : ℕ) → cell_gates l s e k + 8 * l ≤ cell_price l s e k
cells_within l s e k = let d = times_sum l e s in omega arith

-- what a question may have is what its points and its entry condition may
pub parts_add_up : PartsAddUp
parts_add_up u =
    let e = sum_by-append line_price (entry_lines u) (point_lines u) in
    let f = sum_by-append bytes_loaded (entry_lines u) (point_lines u) in
    let g = sum_by-append (λ x. line_size x + 4) (entry_lines u) (point_lines u) in (omega arith, omega arith, omega arith)

-- what the clauses of cells have at most is within the price: the gates of a term, one more variable, those of its cells, and the bits of base reads
pub clauses_within : (u : UnrolledProgram) (gates reads : ℕ) → gates < term_price u → reads ≤ loads_of u →
    1 + (gates + cell_gates (loads_of u) (stores_of u) (edges_of u) (known_of u)) + 8 * reads ≤ unrolled_price u
clauses_within u gates reads g l = let c = cells_within (loads_of u) (stores_of u) (edges_of u) (known_of u) in omega arith

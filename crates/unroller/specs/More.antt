-- The price of an unrolled program that loads more.
use Rattle.std.specs.Prelude.{ℕ, ◌+◌}
use Rattle.walk_spec.specs.Unrolled.{UnrolledProgram}
use Rattle.walk_spec.specs.Prices.{term_price, cell_price, loads_of, stores_of, edges_of, known_of}

-- with so many more byte loads
abbrev pub price_with : UnrolledProgram → (more : ℕ) → ℕ
price_with u more = term_price u + cell_price (loads_of u + more) (stores_of u) (edges_of u) (known_of u)

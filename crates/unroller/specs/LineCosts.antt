-- Costs of lines as numbers of 128 bits.
use Rattle.std.specs.Prelude.{ℕ, ◌≡◌, ◌+◌, ◌-◌, ◌*◌, ◌^◌, ◌&&◌, ◌==◌, min, if◌then◌else◌, List, sum_by}
use Rattle.bilv_spec.specs.Notes.{Expr, Number, Register, Flag, Pc, Bound, Memory, Old, Not, Binary}
use Rattle.bilv_spec.specs.Points.{is_product, is_written, products, value_count, bytes_loaded, line_price}
use Rattle.unroller.specs.declared.costs.Parts.{Parts}
use Rattle.unroller.specs.declared.costs.LineCost.{LineCost}

-- a number as one of 128 bits: the greatest stands for all above it
abbrev pub capped : ℕ → ℕ
capped n = min n (2 ^ 128 - 1)

-- the operators of the text that an expression has and that are no products
abbrev pub others : Expr → ℕ
others (Number n) = 0
others (Register r) = 0
others (Flag f) = 0
others Pc = 0
others Bound = 0
others (Memory n e) = others e
others (Old e) = others e
others (Not e) = others e + 1
others (Binary op a b) = others a + others b + (is_written op - is_product op)

-- the parts are those of an expression
pub record HasParts (p : Parts) (e : Expr) : Type 0 where
  pub products : p.products ≡ capped (products e)
  pub others : p.others ≡ capped (others e)
  pub values : p.values ≡ capped (value_count e)
  pub loads : p.loads ≡ capped (bytes_loaded e)

-- the parts are those of two expressions and of an operator
pub record IsJoined (product : ℕ) (a b p : Parts) : Type 0 where
  pub products : p.products ≡ capped (capped (a.products + b.products) + product)
  pub others : p.others ≡ capped (capped (a.others + b.others) + (1 - product))
  pub values : p.values ≡ capped (a.values + b.values)
  pub loads : p.loads ≡ capped (a.loads + b.loads)

-- the parts are those of another, so many times, and each time counts as a value
pub record IsRepeated (n : ℕ) (a p : Parts) : Type 0 where
  pub products : p.products ≡ capped (a.products * n)
  pub others : p.others ≡ capped (a.others * n)
  pub values : p.values ≡ capped (capped (a.values + 1) * n)
  pub loads : p.loads ≡ capped (a.loads * n)

-- the price of so many products, other operators and values
abbrev pub parts_price : ℕ → ℕ → ℕ → ℕ
parts_price products others values =
    capped (capped (products * 8192) + capped (capped ((if (products == 0) && (others == 0) then 1 else others) + values) * 512))

-- the cost is a line's
pub record IsLineCost (c : LineCost) (e : Expr) : Type 0 where
  pub price : c.price ≡ capped (line_price e)
  pub loads : c.loads ≡ capped (bytes_loaded e)

-- the cost is that of several lines
pub record AreLineCosts (c : LineCost) (lines : List Expr) : Type 0 where
  pub price : c.price ≡ capped (sum_by line_price lines)
  pub loads : c.loads ≡ capped (sum_by bytes_loaded lines)

-- Costs of points as numbers of 128 bits.
use Rattle.std.specs.Prelude.{ℕ, ◌≡◌, ◌+◌, List, Option, Some, None, Bool, true, false, sum_by}
use Rattle.std.specs.Global.{Vec}
use Rattle.std.specs.List.{flat_map}
use Rattle.bil_ast.specs.declared.statements.Stmt.{Stmt}
use Rattle.bilv_spec.specs.Notes.{Expr}
use Rattle.bilv_spec.specs.Points.{line_price, bytes_loaded}
use Rattle.walk_spec.specs.Unrolled.{UnrolledPoint, UnrolledProgram, is_edge}
use Rattle.walk_spec.specs.Prices.{lines_at}
use Rattle.unroller.specs.LineCosts.{capped}
use Rattle.unroller.specs.declared.costs.LineCost.{LineCost}
use Rattle.unroller.specs.declared.prices.Totals.{Totals}

-- the cost is the sum of two
pub record IsSum (a b c : LineCost) : Type 0 where
  pub price : c.price ≡ capped (a.price + b.price)
  pub loads : c.loads ≡ capped (a.loads + b.loads)

-- The totals are those of points, by what each comes to: the price of its row, its byte loads and stores, its edges, and the lines that are evaluated there.
pub record AreTotalsBy {X : Type 0} (row loads_of stores_of edges_of : X → ℕ) (lines_at : X → List Expr) (points : List X) (t : Totals) : Type 0 where
  pub rows : t.rows ≡ capped (sum_by row points)
  pub loads : t.loads ≡ capped (sum_by loads_of points + sum_by bytes_loaded (flat_map lines_at points))
  pub stores : t.stores ≡ capped (sum_by stores_of points)
  pub edges : t.edges ≡ capped (sum_by edges_of points)
  pub lines : t.lines ≡ capped (sum_by line_price (flat_map lines_at points))

-- those of points of a program
abbrev pub AreTotals : UnrolledProgram → List UnrolledPoint → Totals → Type 0
AreTotals u points t = AreTotalsBy (λ q. q.row) (λ q. q.loads) (λ q. q.stores) (λ q. sum_by is_edge q.exits) (lines_at u) points t

-- the totals are the sums of two
pub record AreSums (a b t : Totals) : Type 0 where
  pub rows : t.rows ≡ capped (a.rows + b.rows)
  pub loads : t.loads ≡ capped (a.loads + b.loads)
  pub stores : t.stores ≡ capped (a.stores + b.stores)
  pub edges : t.edges ≡ capped (a.edges + b.edges)
  pub lines : t.lines ≡ capped (a.lines + b.lines)

-- there is a row
abbrev pub has_list : Option (Vec Stmt) → Bool
has_list None = false
has_list (Some list) = true

-- What a point of a code comes to.
use Rattle.std.specs.Prelude.{ℕ, ◌≡◌, ◌+◌, ◌&&◌, Bool, List, length, if◌then◌else◌}
use Rattle.std.specs.List.{list_any}
use Rattle.walk_spec.specs.Unrolled.{goes_out}
use Rattle.question_form.specs.declared.unrolled.Code.{Code}
use Rattle.question_form.specs.declared.unrolled.Edge.{Edge}
use Rattle.question_form.specs.Views.{edge_of}
use Rattle.unroller.specs.LineCosts.{capped}
use Rattle.unroller.specs.Totals.{has_list}
use Rattle.unroller.specs.declared.costs.LineCost.{LineCost}
use Rattle.unroller.specs.declared.prices.Totals.{Totals}

-- a point of the code with these edges leads out of the function
abbrev pub is_out : Code → List Edge → Bool
is_out c edges = has_list c.list && list_any (λ e. goes_out (edge_of e)) edges

-- the totals are those of a point, by what is counted of it, and by the costs of the lines that are evaluated there, with those at the exit where it leads out
pub record AreOf (row_of loads_of stores_of edges_of : ℕ) (out : Bool) (evaluated at_exit : LineCost) (t : Totals) : Type 0 where
  pub rows : t.rows ≡ capped row_of
  pub loads : t.loads ≡ capped (loads_of + (if out then capped (evaluated.loads + at_exit.loads) else evaluated.loads))
  pub stores : t.stores ≡ capped stores_of
  pub edges : t.edges ≡ capped edges_of
  pub lines : t.lines ≡ (if out then capped (evaluated.price + at_exit.price) else evaluated.price)

-- the totals are those of a point of a code with some edges
pub record AreOfCode (c : Code) (led : List Edge) (asserted ensured : LineCost) (t : Totals) : Type 0 where
  pub rows : t.rows ≡ capped c.row
  pub loads : t.loads ≡ capped (c.loads + (if is_out c led then capped (asserted.loads + ensured.loads) else asserted.loads))
  pub stores : t.stores ≡ capped c.stores
  pub edges : t.edges ≡ capped (if has_list c.list then length led else 0)
  pub lines : t.lines ≡ (if is_out c led then capped (asserted.price + ensured.price) else asserted.price)

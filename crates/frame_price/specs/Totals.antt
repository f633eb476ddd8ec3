-- What points of an unrolled frame come to.
use Rattle.std.specs.Prelude.{ℕ, ◌+◌, List, sum_by}
use Rattle.std.specs.List.{list_any}
use Rattle.frame_spec.specs.FrameWalk.{UnrolledPoint, UnrolledProgram}
use Rattle.frame_laws.specs.FramePrices.{goes_out, is_edge, lines_at, own_exit}
use Rattle.unroller.specs.Totals.{AreTotalsBy}
use Rattle.unroller.specs.declared.prices.Totals.{Totals}

-- the price of a point's row, with that of the exit of a contract's frame
abbrev pub row_with_exit : UnrolledProgram → UnrolledPoint → ℕ
row_with_exit u q = q.row + own_exit u.own (list_any goes_out q.exits)

-- the totals are those of points of a frame
abbrev pub AreTotals : UnrolledProgram → List UnrolledPoint → Totals → Type 0
AreTotals u points t = AreTotalsBy (row_with_exit u) (λ q. q.loads) (λ q. q.stores) (λ q. sum_by is_edge q.exits) (lines_at u) points t

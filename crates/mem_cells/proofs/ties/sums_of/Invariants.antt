use Rattle.std.proofs.Common.{◌≡◌, ℕ, ◌<◌, length}
use Rattle.std.specs.Prelude.{slice_index}
use Rattle.mem_cells.specs.Pieces.{IsSplit}
use Rattle.mem_cells.specs.Building.{read_places}
use Rattle.mem_cells.specs.Ties.{sum_at}
use Rattle.mem_cells.proofs.ties.sums_of.Given as goal

abbrev pub invariant-loop-read : goal.invariant-loop-read
invariant-loop-read l = record {
  count : length l.sums.items ≡ l.read;
  sums : (j : ℕ) → j < l.read → IsSplit l.build.dag (slice_index (read_places l.build) j) (sum_at l.sums.items j).base.0 (sum_at l.sums.items j).offset;
}

-- The state of a search.
use Rattle.std.specs.Prelude.{◌≡◌, ◌+◌, ◌≤◌, ◌^◌, [], length, take, reverse}
use Rattle.sat_core.specs.declared.solver.Solver.{Solver}
use Rattle.sat_core.specs.Tables.{true_in}
use Rattle.sat_core.specs.Steps.{told}
use Rattle.sat_core.specs.Trails.{nothing}
use Rattle.sat_core.specs.Links.{AreKept}
use Rattle.sat_core.specs.Propagators.{IsSound}

-- The clauses are propagated on a trail, whose first `done` steps are visited.
pub record IsSolver (s : Solver) : Type 0 where
  pub main : IsSound s.main
  pub size : length s.main.trail.table.items ≡ s.variables + 1
  pub small : s.variables ≤ 2 ^ 62
  pub few : s.done ≤ length s.main.trail.steps.items
  pub kept : AreKept s.main.watches.watched.items [] (told nothing (reverse (take s.done s.main.trail.steps.items))) (true_in s.main.trail.table.items)

use Rattle.std.proofs.Common.{◌≡◌, ◌<◌, ℕ, length, get_or, vec_capacity}
use Rattle.clause_spec.specs.UnitPropagation.{Includes}
use Rattle.sat_core.specs.Tables.{true_in}
use Rattle.sat_core.specs.Trails.{IsTrail, IsRun}
use Rattle.sat_core.specs.Moves.{IsMetAt}
use Rattle.sat_core.proofs.propagate.assert_short.Given as goal

abbrev pub invariant-loop-k : goal.invariant-loop-k
invariant-loop-k l = record {
  trail : IsTrail l.trail.table.items l.trail.steps.items (vec_capacity l.trail.steps);
  size : length l.trail.table.items ≡ length l.fn.trail.table.items;
  room : vec_capacity l.trail.steps ≡ vec_capacity l.fn.trail.steps;
  grows : Includes (true_in l.fn.trail.table.items) (true_in l.trail.table.items);
  run : IsRun l.clauses l.fn.trail.steps.items l.trail.steps.items;
  met : (j : ℕ) → j < l.k-index → IsMetAt l.clauses (true_in l.trail.table.items) (get_or l.short j 0);
}

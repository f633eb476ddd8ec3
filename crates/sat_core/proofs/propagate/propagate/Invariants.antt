use Rattle.std.proofs.Common.{◌≡◌, ◌≤◌, ◌-◌, Bool, [], length, take, vec_capacity}
use Rattle.std.specs.Prelude.{reverse}
use Rattle.clause_spec.specs.Clauses.{Literal}
use Rattle.clause_spec.specs.UnitPropagation.{Includes}
use Rattle.sat_core.specs.Tables.{true_in}
use Rattle.sat_core.specs.Steps.{told}
use Rattle.sat_core.specs.Trails.{nothing, IsTrail, IsRun}
use Rattle.sat_core.specs.Links.{AreKept}
use Rattle.sat_core.specs.Moves.{AreMet, AreReady}
use Rattle.sat_core.proofs.propagate.propagate.Given as goal

abbrev pub invariant-loop-done : goal.invariant-loop-done
invariant-loop-done l = record {
  ready : AreReady l.clauses l.watches.heads.items l.watches.links.items l.watches.owners.items l.short l.watches.watched.items (length l.trail.table.items);
  trail : IsTrail l.trail.table.items l.trail.steps.items (vec_capacity l.trail.steps);
  size : length l.trail.table.items ≡ length l.fn.trail.table.items;
  room : vec_capacity l.trail.steps ≡ vec_capacity l.fn.trail.steps;
  grows : Includes (true_in l.fn.trail.table.items) (true_in l.trail.table.items);
  run : IsRun l.clauses l.fn.trail.steps.items l.trail.steps.items;
  few : l.done ≤ length l.trail.steps.items;
  kept : AreKept l.watches.watched.items [] (told nothing (reverse (take l.done l.trail.steps.items))) (true_in l.trail.table.items);
  met : AreMet l.clauses l.short (true_in l.trail.table.items);
  cuts : (done holds : Literal → Bool) → Includes done (true_in l.fn.trail.table.items) → Includes holds (true_in l.fn.trail.table.items) →
      AreKept l.fn.watches.watched.items [] done holds → AreKept l.watches.watched.items [] done holds;
}

abbrev pub decreases-loop-done : goal.decreases-loop-done
decreases-loop-done l = length l.trail.table.items - l.done

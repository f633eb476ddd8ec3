use Rattle.std.proofs.Common.{◌≡◌, Bool, [], length, vec_capacity}
use Rattle.clause_spec.specs.Clauses.{Literal}
use Rattle.clause_spec.specs.UnitPropagation.{Includes}
use Rattle.sat_core.specs.Tables.{true_in}
use Rattle.sat_core.specs.Trails.{IsTrail, IsRun}
use Rattle.sat_core.specs.Links.{IsPlaced, AreKept}
use Rattle.sat_core.proofs.Visiting.{IsLeft}
use Rattle.sat_core.proofs.Chains.{walk}
use Rattle.sat_core.proofs.visit.visit.Given as goal

abbrev pub invariant-loop-watch : goal.invariant-loop-watch
invariant-loop-watch l = record {
  trail : IsTrail l.trail.table.items l.trail.steps.items (vec_capacity l.trail.steps);
  size : length l.trail.table.items ≡ length l.fn.trail.table.items;
  room : vec_capacity l.trail.steps ≡ vec_capacity l.fn.trail.steps;
  grows : Includes (true_in l.fn.trail.table.items) (true_in l.trail.table.items);
  run : IsRun l.clauses l.fn.trail.steps.items l.trail.steps.items;
  heads : length l.watches.heads.items ≡ length l.fn.watches.heads.items;
  left : IsLeft l.watches.heads.items l.watches.links.items l.fn.watches.watched.items l.watches.watched.items l.watch l.lit (true_in l.fn.trail.table.items)
      (true_in l.trail.table.items);
  placed : IsPlaced l.clauses l.watches.owners.items l.watches.watched.items;
  owners : l.watches.owners ≡ l.fn.watches.owners;
  cuts : (done holds : Literal → Bool) → Includes done (true_in l.fn.trail.table.items) → Includes holds (true_in l.fn.trail.table.items) →
      AreKept l.fn.watches.watched.items [] done holds → AreKept l.watches.watched.items [] done holds;
}

abbrev pub decreases-loop-watch : goal.decreases-loop-watch
decreases-loop-watch l = length (walk (length l.watches.links.items) l.watches.links.items l.watch)

use Rattle.std.proofs.Common.{◌≡◌, ◌≤◌, ◌-◌, [], length, take}
use Rattle.std.specs.Prelude.{reverse}
use Rattle.sat_core.specs.Tables.{true_in, open_count}
use Rattle.sat_core.specs.Steps.{told}
use Rattle.sat_core.specs.Trails.{nothing}
use Rattle.sat_core.specs.Links.{AreKept}
use Rattle.sat_core.specs.Descents.{IsTaken}
use Rattle.sat_core.specs.Propagators.{IsSound}
use Rattle.sat_core.proofs.decide.descend.Given as goal

abbrev pub invariant-loop-full : goal.invariant-loop-full
invariant-loop-full l = record {
  sound : IsSound l.propagator;
  clauses : l.propagator.clauses ≡ l.fn.propagator.clauses;
  size : length l.propagator.trail.table.items ≡ length l.fn.propagator.trail.table.items;
  few : l.from ≤ length l.propagator.trail.steps.items;
  kept : AreKept l.propagator.watches.watched.items [] (told nothing (reverse (take l.from l.propagator.trail.steps.items)))
      (true_in l.propagator.trail.table.items);
  taken : IsTaken l.propagator.clauses.items (length l.propagator.trail.table.items - 1) l.full.items (true_in l.propagator.trail.table.items);
}

abbrev pub decreases-loop-full : goal.decreases-loop-full
decreases-loop-full l = open_count l.propagator.trail.table.items

use Rattle.std.proofs.Common.{◌≡◌, [], true, length, take}
use Rattle.clause_spec.specs.Clauses.{Literal, has}
use Rattle.sat_core.specs.Kept.{IsKept, IsNeeded}
use Rattle.sat_core.specs.Propagators.{IsSound}
use Rattle.sat_core.proofs.minimise.minimise.Given as goal

abbrev pub invariant-loop-lit : goal.invariant-loop-lit
invariant-loop-lit l = record {
  sound : IsSound l.propagator;
  empty : l.propagator.trail.steps.items ≡ [];
  clauses : l.propagator.clauses ≡ l.fn.propagator.clauses;
  size : length l.propagator.trail.table.items ≡ length l.fn.propagator.trail.table.items;
  kept : IsKept l.fn.propagator.clauses.items l.full l.kept.items l.hints.items;
  tested : (m : Literal) → has (take l.lit-index l.full) m ≡ true → IsNeeded l.fn.propagator.clauses.items l.kept.items m;
}

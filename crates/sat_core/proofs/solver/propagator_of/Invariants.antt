use Rattle.std.proofs.Common.{◌≡◌, ◌+◌, [], length, take}
use Rattle.sat_core.specs.Propagators.{IsSound}
use Rattle.sat_core.proofs.solver.propagator_of.Given as goal

abbrev pub invariant-loop-clause : goal.invariant-loop-clause
invariant-loop-clause l = record {
  sound : IsSound l.propagator;
  size : length l.propagator.trail.table.items ≡ l.variables + 1;
  empty : l.propagator.trail.steps.items ≡ [];
  clauses : l.propagator.clauses.items ≡ take l.clause-index l.clauses;
}

use Rattle.std.proofs.Common.{◌≡◌, ◌+◌, ◌≤◌, ◌-◌, ◌^◌, [], length, map, vec_len}
use Rattle.cnf_form.specs.Views.{line_of}
use Rattle.sat_core.specs.Propagators.{IsSound}
use Rattle.sat_core.proofs.Logs.{IsSearched}
use Rattle.sat_core.proofs.search.solve.Given as goal

abbrev pub invariant-loop-lines : goal.invariant-loop-lines
invariant-loop-lines l = record {
  sound : IsSound l.solver.main;
  empty : l.solver.main.trail.steps.items ≡ [];
  size : length l.solver.main.trail.table.items ≡ l.cnf.variables + 1;
  small : l.cnf.variables ≤ 2 ^ 62;
  searched : IsSearched l.cnf.variables l.cnf.clauses.items l.solver.main.clauses.items (map line_of l.lines.items);
  few : vec_len l.lines ≤ l.conflicts;
}

abbrev pub decreases-loop-lines : goal.decreases-loop-lines
decreases-loop-lines l = l.conflicts - vec_len l.lines

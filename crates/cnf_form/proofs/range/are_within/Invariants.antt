use Rattle.std.proofs.Common.{◌≡◌, drop}
use Rattle.std.specs.List.{list_all}
use Rattle.cnf_form.specs.Ranges.{is_on_variables}
use Rattle.cnf_form.proofs.range.are_within.Given as goal

abbrev pub invariant-loop-clause : goal.invariant-loop-clause
invariant-loop-clause l = list_all (is_on_variables l.variables) l.clauses ≡ list_all (is_on_variables l.variables) (drop l.clause-index l.clauses)

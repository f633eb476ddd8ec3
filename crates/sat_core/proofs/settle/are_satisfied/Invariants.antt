use Rattle.std.proofs.Common.{◌≡◌, drop}
use Rattle.std.specs.List.{list_all}
use Rattle.clause_spec.specs.Clauses.{clause_value, valuation}
use Rattle.sat_core.proofs.settle.are_satisfied.Given as goal

abbrev pub invariant-loop-clause : goal.invariant-loop-clause
invariant-loop-clause l = list_all (clause_value (valuation l.values)) l.clauses ≡ list_all (clause_value (valuation l.values)) (drop l.clause-index l.clauses)

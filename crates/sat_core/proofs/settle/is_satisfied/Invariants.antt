use Rattle.std.proofs.Common.{◌≡◌, drop}
use Rattle.clause_spec.specs.Clauses.{clause_value, valuation}
use Rattle.sat_core.proofs.settle.is_satisfied.Given as goal

abbrev pub invariant-loop-lit : goal.invariant-loop-lit
invariant-loop-lit l = clause_value (valuation l.values) l.clause ≡ clause_value (valuation l.values) (drop l.lit-index l.clause)

use Rattle.std.proofs.Common.{◌≡◌, drop}
use Rattle.clause_spec.specs.Refutation.{some_above}
use Rattle.refutation_checker.proofs.judge.has_above.Given as goal

abbrev pub invariant-loop-lit : goal.invariant-loop-lit
invariant-loop-lit l = some_above l.variables l.clause ≡ some_above l.variables (drop l.lit-index l.clause)

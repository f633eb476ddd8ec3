use Rattle.std.proofs.Common.{◌≡◌, ◌++◌, drop}
use Rattle.refutation_checker.specs.Occurrences.{variables_of}
use Rattle.refutation_checker.proofs.names.push_variables.Given as goal

abbrev pub invariant-loop-lit : goal.invariant-loop-lit
invariant-loop-lit l = l.out.items ++ variables_of (drop l.lit-index l.clause) ≡ l.fn.out.items ++ variables_of l.clause

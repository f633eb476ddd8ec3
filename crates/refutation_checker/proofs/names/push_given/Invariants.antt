use Rattle.std.proofs.Common.{◌≡◌, ◌++◌, drop}
use Rattle.refutation_checker.specs.Occurrences.{variables_in}
use Rattle.refutation_checker.proofs.names.push_given.Given as goal

abbrev pub invariant-loop-clause : goal.invariant-loop-clause
invariant-loop-clause l = l.out.items ++ variables_in (drop l.clause-index l.clauses) ≡ l.fn.out.items ++ variables_in l.clauses

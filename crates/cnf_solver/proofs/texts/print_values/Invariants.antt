use Rattle.std.proofs.Common.{◌≡◌, ◌+◌, ◌++◌, drop}
use Rattle.cnf_solver.specs.Solutions.{values_from}
use Rattle.cnf_solver.proofs.texts.print_values.Given as goal

abbrev pub invariant-loop-value : goal.invariant-loop-value
invariant-loop-value l =
    (l.variable ≡ l.value-index + 1)
    × (l.out.items ++ values_from l.variable (drop l.value-index l.values) ≡ l.fn.out.items ++ values_from 1 l.values)

use Rattle.std.proofs.Common.{◌≡◌, ◌+◌, ◌-◌, ◌^◌, ◌<◌, min, drop}
use Rattle.machine_spec.specs.Bil.{list_size}
use Rattle.bil_ast.specs.Views.{statements}
use Rattle.bil_ast.proofs.statements.Stmt.+size.Given as goal

abbrev pub invariant-list_size-loop-stmt : goal.invariant-list_size-loop-stmt
invariant-list_size-loop-stmt l =
    (l.total < 2 ^ 64)
    × (min (l.total + list_size (statements (drop l.stmt-index l.list))) (2 ^ 64 - 1) ≡ min (list_size (statements l.list)) (2 ^ 64 - 1))

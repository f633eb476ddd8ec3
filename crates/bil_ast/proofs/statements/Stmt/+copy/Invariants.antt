use Rattle.std.proofs.Common.{◌≡◌, ◌++◌, drop}
use Rattle.bil_ast.specs.Views.{statements}
use Rattle.bil_ast.proofs.statements.Stmt.+copy.Given as goal

abbrev pub invariant-copy_list-loop-stmt : goal.invariant-copy_list-loop-stmt
invariant-copy_list-loop-stmt l = statements (l.copies.items ++ drop l.stmt-index l.list) ≡ statements l.list

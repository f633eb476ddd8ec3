-- A statement that there may be, before others.
use Rattle.std.specs.Prelude.{Option, Some, None}
use Rattle.machine_spec.specs.Bil.{Statements}
use Rattle.bil_ast.specs.declared.statements.Stmt.{Stmt}
use Rattle.bil_ast.specs.Views.{statement}

-- the statement, if there is one, before others
abbrev pub maybe_statement : Option Stmt → Statements → Statements
maybe_statement None rest = rest
maybe_statement (Some s) rest = statement s rest

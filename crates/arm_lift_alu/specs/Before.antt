-- A list of the code before statements of the definitions, by which a list that grows is described.
use Rattle.std.specs.Prelude.{List, [], ◌∷◌}
use Rattle.machine_spec.specs.Bil as bil
use Rattle.bil_ast.specs.Views.{statement}
use Rattle.bil_ast.specs.declared.statements.Stmt.{Stmt}

-- the statements of a list, and then others
abbrev pub before : List Stmt → bil.Statements → bil.Statements
before [] rest = rest
before (s ∷ list) rest = statement s (before list rest)

-- What stands behind a word's bytes.
use Rattle.std.specs.Prelude.{ℕ, List, [], ◌∷◌, ◌++◌, Option, Some, None, codes}
use Rattle.std.specs.Global.{Vec}
use Rattle.machine_spec.specs.BilText.{list_text}
use Rattle.bil_ast.specs.declared.statements.Stmt.{Stmt}
use Rattle.bil_ast.specs.Views.{statements}

-- the statements of a word, or that it has no row
abbrev pub rest_text : Option (Vec Stmt) → List ℕ
rest_text None = codes " none" ++ 10 ∷ []
rest_text (Some v) = 10 ∷ list_text 1 (statements v.items)

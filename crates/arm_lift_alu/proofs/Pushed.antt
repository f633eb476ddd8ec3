-- A list with one more statement, and a whole list.
use Rattle.std.proofs.Common.{◌≡◌, refl, ap, List, [], ◌∷◌, ◌++◌}
use Rattle.machine_spec.specs.Bil.{Statements, Empty}
use Rattle.bil_ast.specs.Views.{statement, statements}
use Rattle.bil_ast.specs.declared.statements.Stmt.{Stmt}
use Rattle.arm_lift_alu.specs.Before.{before}

pub pushed : (list : List Stmt) (s : Stmt) (rest : Statements) → before (list ++ (s ∷ [])) rest ≡ before list (statement s rest)
pushed [] s rest = refl
pushed (x ∷ list) s rest = ap (statement x) (pushed list s rest)

pub whole : (list : List Stmt) → statements list ≡ before list Empty
whole [] = refl
whole (x ∷ list) = ap (statement x) (whole list)

-- What is told of rows and steps.
use Rattle.std.proofs.Common.{ℕ, refl, codes}
use Rattle.std.specs.Prelude.{Option, Some, None}
use Rattle.std.specs.Global.{Vec}
use Rattle.word_spec.specs.Texts.{split_lines}
use Rattle.machine_spec.specs.Machine.{Machine, Row}
use Rattle.machine_spec.specs.Bil.{Bank}
use Rattle.machine_spec.specs.BilText.{list_text}
use Rattle.bil_ast.specs.declared.statements.Stmt.{Stmt}
use Rattle.bil_ast.specs.Views.{statements}
use Rattle.machine_law.specs.Facts.{IsLiftedWord}
use Rattle.trace_texts_spec.specs.StepLines.{IsMeaning, in_line}

-- there is no row
pub none_meaning : (m : Machine) (bank : Bank) (row : Option Row) (at : ℕ) → IsLiftedWord m bank row at None → IsMeaning m bank row at (codes " none")
none_meaning m bank None at h = refl
none_meaning m bank (Some row) at h = absurd h

-- there is one, with a list
pub some_meaning : (m : Machine) (bank : Bank) (row : Option Row) (at : ℕ) (v : Vec Stmt) → IsLiftedWord m bank row at (Some v) →
    IsMeaning m bank row at (in_line (split_lines (list_text 0 (statements v.items))))
some_meaning m bank None at v h = absurd h
some_meaning m bank (Some row) at v h = (statements v.items, h, refl)

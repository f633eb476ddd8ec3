-- A list that is returned, under its condition, is a lifting.
use Rattle.std.proofs.Common.{◌≡◌, ℕ, sym, subst, ap, ◌∙◌, IfOk, Result, Ok, Err, Vec, Global}
use Rattle.std.specs.declared.alloc.AllocError.{AllocError}
use Rattle.bil_ast.specs.Views.{statements}
use Rattle.bil_ast.specs.declared.statements.Stmt.{Stmt}
use Rattle.word_spec.specs.Memory.{Endian}
use Rattle.machine_spec.specs.Machine.{Row}
use Rattle.word_spec.specs.Profiles.{Profile, V4}
use Rattle.machine_spec.specs.Arm.{arm}
use Rattle.machine_spec.specs.Bil.{RRegisters, Statements}
use Rattle.machine_spec.specs.MachineLaws.{IsLifting}
use Rattle.arm_decode.specs.declared.parts.Condition.{Condition}
use Rattle.arm_lift_alu.specs.Lifted.{conditional}
use Rattle.arm_lift_alu.proofs.Profiles.{in_profile}

pub returned : (o : Endian) (row : Row) (at : ℕ) (k : Condition) (y z : Statements) (r : Result (Vec Stmt Global) AllocError) → y ≡ z →
    IfOk r (λ list. statements list.items ≡ conditional k y) → IsLifting (arm o V4) RRegisters row at (conditional k z) →
    IfOk r (λ list. (profile : Profile) → IsLifting (arm o profile) RRegisters row at (statements list.items))
returned o row at k y z (Ok list) same e h = λ p.
    in_profile o p row at (statements list.items)
    (subst (λ (x : Statements). IsLifting (arm o V4) RRegisters row at x) (sym (e ∙ ap (conditional k) same)) h)
returned o row at k y z (Err x) same e h = tt

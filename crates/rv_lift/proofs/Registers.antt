-- Where a register is not x0.
use Rattle.std.proofs.Common.{◌≡◌, ◌≢◌, ℕ, zero, suc, refl}
use Rattle.machine_spec.specs.Bil.{XRegisters, Expression, Var, Empty, Assign}
use Rattle.machine_spec.specs.Bil as bil
use Rattle.rv_lift.specs.Lifted as lifts

pub register_is : (r : ℕ) → r ≢ 0 → lifts.register r ≡ Var (bil.Register XRegisters r)
register_is zero h = absurd (h refl)
register_is (suc r) h = refl

pub assigned_is : (r : ℕ) (e : Expression) → r ≢ 0 → lifts.assigned r e ≡ Assign (bil.Register XRegisters r) e Empty
assigned_is zero e h = absurd (h refl)
assigned_is (suc r) e h = refl

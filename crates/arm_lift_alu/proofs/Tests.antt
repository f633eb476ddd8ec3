-- Where a condition may fail.
use Rattle.std.proofs.Common.{◌≡◌, true, false, refl}
use Rattle.std.specs.Prelude.{◌==◌}
use Rattle.machine_spec.specs.Bil.{Statements, Empty, If}
use Rattle.arm_decode.specs.declared.parts.Condition.{Condition}
use Rattle.arm_decode.specs.declared.parts.Condition.TheVariants.{Eq, Ne, Cs, Cc, Mi, Pl, Vs, Vc, Hi, Ls, Ge, Lt, Gt, Le, Al}
use Rattle.arm_decode.specs.Parts.{condition_number}
use Rattle.arm_lift_alu.specs.Lifted as lifts

pub may_fail : (k : Condition) (list : Statements) → (condition_number k == 14) ≡ false → lifts.conditional k list ≡ If (lifts.test k) list Empty Empty
may_fail Eq list h = refl
may_fail Ne list h = refl
may_fail Cs list h = refl
may_fail Cc list h = refl
may_fail Mi list h = refl
may_fail Pl list h = refl
may_fail Vs list h = refl
may_fail Vc list h = refl
may_fail Hi list h = refl
may_fail Ls list h = refl
may_fail Ge list h = refl
may_fail Lt list h = refl
may_fail Gt list h = refl
may_fail Le list h = refl
may_fail Al list h = cc

pub always_done : (k : Condition) (list : Statements) → (condition_number k == 14) ≡ true → lifts.conditional k list ≡ list
always_done Al list h = refl
always_done Eq list h = cc
always_done Ne list h = cc
always_done Cs list h = cc
always_done Cc list h = cc
always_done Mi list h = cc
always_done Pl list h = cc
always_done Vs list h = cc
always_done Vc list h = cc
always_done Hi list h = cc
always_done Ls list h = cc
always_done Ge list h = cc
always_done Lt list h = cc
always_done Gt list h = cc
always_done Le list h = cc

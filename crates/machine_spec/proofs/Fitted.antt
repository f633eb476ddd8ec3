-- The state texts of both machines name their registers and flags, and no others.
use Rattle.std.proofs.Common.{◌≡◌, ℕ, refl, false, arith}
use Rattle.std.specs.Prelude.{◌&&◌, nat_le, nat_lt}
use Rattle.std.proofs.lemmas.Bool.Decides.{nat_tests}
use Rattle.machine_spec.specs.RvMachineLaws.{RvIsFitted}
use Rattle.machine_spec.specs.ArmMachineLaws.{ArmIsFitted}

from_one : (r : ℕ) → (nat_le 1 r && nat_le r 31) ≡ (nat_le 1 r && nat_lt r 32)
from_one r = grind (arith, nat_tests)

from_zero : (r : ℕ) → nat_le r 14 ≡ (nat_le 0 r && nat_lt r 15)
from_zero r = grind (arith, nat_tests)

flags_below : (f : ℕ) → nat_le f 3 ≡ nat_lt f 4
flags_below f = grind (arith, nat_tests)

no_flag : (f : ℕ) → false ≡ nat_lt f 0
no_flag f = grind (arith, nat_tests)

pub rv_is_fitted : RvIsFitted
rv_is_fitted compressed = record {
  registers = from_one;
  enough_registers = omega arith;
  few_registers = omega arith;
  low_registers = omega arith;
  flags = no_flag;
  few_flags = omega arith;
  link = refl;
}

pub arm_is_fitted : ArmIsFitted
arm_is_fitted e profile = record {
  registers = from_zero;
  enough_registers = omega arith;
  few_registers = omega arith;
  low_registers = omega arith;
  flags = flags_below;
  few_flags = omega arith;
  link = refl;
}

-- What a word of data processing says of its fields.
use Rattle.std.proofs.Common.{◌≡◌, ℕ, Bool, true, false, not, ◌&&◌, ◌||◌, refl, arith}
use Rattle.std.specs.Prelude.{◌==◌}
use Rattle.machine_spec.specs.Arm as rows
use Rattle.machine_spec.specs.Arm.{field_d, sets_flags, is_computing}
use Rattle.arm_decode.specs.declared.parts.Operand as operands
use Rattle.arm_decode.specs.declared.parts.Operand.TheVariants as kinds
use Rattle.arm_decode.specs.Parts.{HasOperand}
use Rattle.arm_lift_alu.proofs.Weights.{Fits}

pub fits_is : (w : ℕ) (o : operands.Operand) → HasOperand w o → Fits o
fits_is w (kinds.Number byte rotation) h = rw h.1 (omega arith)
fits_is w (kinds.ByNumber r kind amount) h = tt
fits_is w (kinds.ByRegister r kind amount) h = tt

-- parts of a conjunction
front : (a b : Bool) → (a && b) ≡ true → a ≡ true
front true b h = refl
front false b h = cc

back : (a b : Bool) → (a && b) ≡ true → b ≡ true
back true b h = h
back false b h = cc

sets_not_pc : (a b : Bool) → not (a && b) ≡ true → a ≡ true → b ≡ false
sets_not_pc true true h k = cc
sets_not_pc true false h k = refl
sets_not_pc false b h k = cc

tests_set : (t s d : Bool) → not (t && (not s || d)) ≡ true → t ≡ true → s ≡ true
tests_set true true d h k = refl
tests_set true false true h k = cc
tests_set true false false h k = cc
tests_set false s d h k = cc

-- a row that sets flags does not write r15
pub not_pc : (w : ℕ) → is_computing w ≡ true → sets_flags w ≡ true → (field_d w == 15) ≡ false
not_pc w h k = sets_not_pc (sets_flags w) (field_d w == 15) (back _ _ (front _ _ h)) k

-- a test sets flags
pub test_sets : (w : ℕ) → is_computing w ≡ true → rows.is_test w ≡ true → sets_flags w ≡ true
test_sets w h k = tests_set (rows.is_test w) (sets_flags w) (not (field_d w == 0)) (back _ _ (front _ _ (front _ _ (front _ _ h)))) k

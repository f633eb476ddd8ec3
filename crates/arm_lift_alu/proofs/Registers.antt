-- Where a register is the program counter, and where a shift's number is 0.
use Rattle.std.proofs.Common.{◌≡◌, ◌≢◌, ℕ, zero, suc, ◌-◌, refl, ap, arith}
use Rattle.std.proofs.lemmas.Bool.{ne_eqb}
use Rattle.word_spec.specs.Words.{add, bit_at}
use Rattle.machine_spec.specs.Bil.{Expression, Constant}
use Rattle.arm_decode.specs.declared.parts.ShiftKind.{ShiftKind}
use Rattle.arm_decode.specs.declared.parts.ShiftKind.TheVariants.{Lsl, Lsr, Asr, Ror}
use Rattle.arm_lift_alu.specs.declared.shifter.CarryIn.{CarryIn}
use Rattle.arm_lift_alu.specs.Lifted.{number, flag}
use Rattle.arm_lift_alu.specs.Operands as lifts

pub is_pc : (r at : ℕ) → r ≡ 15 → lifts.register r at ≡ number (add 32 at 8)
is_pc r at h = rw h refl

pub is_own : (r at : ℕ) → r ≢ 15 → lifts.register r at ≡ lifts.own r
is_own r at h = rw (ne_eqb r 15 h) refl

pub some_amount : (kind : ShiftKind) (k : CarryIn) (v : Expression) (n : ℕ) → n ≢ 0 → lifts.by_number kind k v n ≡ lifts.shifted kind v n
some_amount kind k v zero h = absurd (h refl)
some_amount kind k v (suc n) h = refl

pub no_amount : (kind : ShiftKind) (k : CarryIn) (v : Expression) (n : ℕ) → n ≡ 0 → lifts.by_number kind k v n ≡ lifts.by_0 kind k v
no_amount kind k v n h = rw h refl

-- the carry out of a shift by a number that is not 0
pub carry_by_left : (v : Expression) (n : ℕ) → n ≢ 0 → lifts.number_carry Lsl v n ≡ lifts.bit_of (32 - n) v
carry_by_left v zero h = absurd (h refl)
carry_by_left v (suc n) h = let e : 31 - n ≡ 32 - suc n = omega arith in ap (λ i. lifts.bit_of i v) e

pub carry_by_right : (kind : ShiftKind) (v : Expression) (n : ℕ) → n ≢ 0 → (kind ≢ Lsl) → lifts.number_carry kind v n ≡ lifts.bit_of (n - 1) v
carry_by_right kind v zero h k = absurd (h refl)
carry_by_right Lsl v (suc n) h k = absurd (k refl)
carry_by_right Lsr v (suc n) h k = let e : n ≡ suc n - 1 = omega arith in ap (λ i. lifts.bit_of i v) e
carry_by_right Asr v (suc n) h k = let e : n ≡ suc n - 1 = omega arith in ap (λ i. lifts.bit_of i v) e
carry_by_right Ror v (suc n) h k = let e : n ≡ suc n - 1 = omega arith in ap (λ i. lifts.bit_of i v) e

pub rotated_carry : (byte rotation : ℕ) → rotation ≢ 0 → lifts.immediate_carry byte rotation ≡ Constant 1 (bit_at 31 (lifts.immediate byte rotation))
rotated_carry byte zero h = absurd (h refl)
rotated_carry byte (suc n) h = refl

pub unrotated_carry : (byte rotation : ℕ) → rotation ≡ 0 → lifts.immediate_carry byte rotation ≡ flag 1
unrotated_carry byte rotation h = rw h refl

-- What opcodes and operands are, as the table says of words.
use Rattle.std.proofs.Common.{◌≡◌, ℕ, ◌/◌, ◌%◌, true, false, ◌&&◌, refl, ap, ◌∙◌, arith}
use Rattle.std.specs.Prelude.{◌==◌, [], ◌∷◌}
use Rattle.std.specs.List.{list_any}
use Rattle.std.proofs.Math.Nat.{div-div-eq-div-mul}
use Rattle.machine_spec.specs.Arm as rows
use Rattle.machine_spec.specs.Arm.{opcode, kind_of}
use Rattle.arm_decode.specs.declared.parts.ShiftKind.{ShiftKind}
use Rattle.arm_decode.specs.declared.parts.ShiftKind.TheVariants.{Lsl, Lsr, Asr, Ror}
use Rattle.arm_decode.specs.declared.parts.Operand as operands
use Rattle.arm_decode.specs.declared.parts.Operand.TheVariants as operand
use Rattle.arm_decode.specs.declared.parts.Opcode.{Opcode}
use Rattle.arm_decode.specs.declared.parts.Opcode.TheVariants.{And, Eor, Sub, Rsb, Add, Adc, Sbc, Rsc, Tst, Teq, Cmp, Cmn, Orr, Mov, Bic, Mvn}
use Rattle.arm_decode.specs.Parts.{opcode_number, kind_number, is_test, is_logical, adds_carry, keeps_by_number, keeps_carry, through_carry, is_rrx, is_by_register, HasOperand}

adds_number : (o : Opcode) → adds_carry o ≡ list_any (λ k. k == opcode_number o) (5 ∷ 6 ∷ 7 ∷ [])
adds_number And = refl
adds_number Eor = refl
adds_number Sub = refl
adds_number Rsb = refl
adds_number Add = refl
adds_number Adc = refl
adds_number Sbc = refl
adds_number Rsc = refl
adds_number Tst = refl
adds_number Teq = refl
adds_number Cmp = refl
adds_number Cmn = refl
adds_number Orr = refl
adds_number Mov = refl
adds_number Bic = refl
adds_number Mvn = refl

logical_number : (o : Opcode) → is_logical o ≡ list_any (λ k. k == opcode_number o) (0 ∷ 1 ∷ 8 ∷ 9 ∷ 12 ∷ 13 ∷ 14 ∷ 15 ∷ [])
logical_number And = refl
logical_number Eor = refl
logical_number Sub = refl
logical_number Rsb = refl
logical_number Add = refl
logical_number Adc = refl
logical_number Sbc = refl
logical_number Rsc = refl
logical_number Tst = refl
logical_number Teq = refl
logical_number Cmp = refl
logical_number Cmn = refl
logical_number Orr = refl
logical_number Mov = refl
logical_number Bic = refl
logical_number Mvn = refl

test_number : (o : Opcode) → is_test o ≡ (opcode_number o / 4 == 2)
test_number And = refl
test_number Eor = refl
test_number Sub = refl
test_number Rsb = refl
test_number Add = refl
test_number Adc = refl
test_number Sbc = refl
test_number Rsc = refl
test_number Tst = refl
test_number Teq = refl
test_number Cmp = refl
test_number Cmn = refl
test_number Orr = refl
test_number Mov = refl
test_number Bic = refl
test_number Mvn = refl

pub adds_is : (w : ℕ) (o : Opcode) → opcode_number o ≡ opcode w → adds_carry o ≡ rows.adds_carry w
adds_is w o h = adds_number o ∙ ap (λ n. list_any (λ k. k == n) (5 ∷ 6 ∷ 7 ∷ [])) h

pub logical_is : (w : ℕ) (o : Opcode) → opcode_number o ≡ opcode w → is_logical o ≡ rows.is_logical w
logical_is w o h = logical_number o ∙ ap (λ n. list_any (λ k. k == n) (0 ∷ 1 ∷ 8 ∷ 9 ∷ 12 ∷ 13 ∷ 14 ∷ 15 ∷ [])) h

-- bits 24 to 23 are the upper half of the opcode
pub test_is : (w : ℕ) (o : Opcode) → opcode_number o ≡ opcode w → is_test o ≡ rows.is_test w
test_is w o h =
    let q = div-div-eq-div-mul w 2097152 4 in
    let p : w / 2097152 % 16 / 4 ≡ w / 8388608 % 4 = omega arith in
    test_number o ∙ ap (λ k. k / 4 == 2) h ∙ ap (λ x. x == 2) p

through_number : (kind : ShiftKind) (n : ℕ) → through_carry kind n ≡ ((kind_number kind == 3) && (n == 0))
through_number Lsl n = refl
through_number Lsr n = refl
through_number Asr n = refl
through_number Ror n = refl

keeps_number : (kind : ShiftKind) (n : ℕ) → keeps_by_number kind n ≡ ((kind_number kind == 0) && (n == 0))
keeps_number Lsl n = refl
keeps_number Lsr n = refl
keeps_number Asr n = refl
keeps_number Ror n = refl

pub rrx_is : (w : ℕ) (o : operands.Operand) → HasOperand w o → is_rrx o ≡ rows.is_rrx w
rrx_is w (operand.Number byte rotation) h = rw h.0 refl
rrx_is w (operand.ByNumber r kind amount) h =
    rw (h.0, h.1) (through_number kind amount.bits ∙ ap (λ k. (k == 3) && (amount.bits == 0)) h.3 ∙ ap (λ n. (kind_of w == 3) && (n == 0)) h.4)
rrx_is w (operand.ByRegister r kind amount) h = rw (h.0, h.1) refl

pub keeps_is : (w : ℕ) (o : operands.Operand) → HasOperand w o → keeps_carry o ≡ rows.keeps_carry w
keeps_is w (operand.Number byte rotation) h = rw h.0 (ap (λ n. n == 0) h.2)
keeps_is w (operand.ByNumber r kind amount) h =
    rw (h.0, h.1) (keeps_number kind amount.bits ∙ ap (λ k. (k == 0) && (amount.bits == 0)) h.3 ∙ ap (λ n. (kind_of w == 0) && (n == 0)) h.4)
keeps_is w (operand.ByRegister r kind amount) h = rw (h.0, h.1) refl

pub by_register_is : (w : ℕ) (o : operands.Operand) → HasOperand w o → is_by_register o ≡ rows.by_a_register w
by_register_is w (operand.Number byte rotation) h = rw h.0 refl
by_register_is w (operand.ByNumber r kind amount) h = rw (h.0, h.1) refl
by_register_is w (operand.ByRegister r kind amount) h = rw (h.0, h.1) refl

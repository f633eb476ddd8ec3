-- Expressions that do not have the carry that comes in are the same, whatever is known of it.
use Rattle.std.proofs.Common.{◌≡◌, ℕ, zero, suc, false, refl, ap, ◌∙◌}
use Rattle.machine_spec.specs.Bil.{RRegisters, Expression, Statements, Assign}
use Rattle.machine_spec.specs.Bil as bil
use Rattle.arm_decode.specs.declared.parts.ShiftKind.{ShiftKind}
use Rattle.arm_decode.specs.declared.parts.ShiftKind.TheVariants.{Lsl, Lsr, Asr, Ror}
use Rattle.arm_decode.specs.declared.parts.Operand as operands
use Rattle.arm_decode.specs.declared.parts.Operand.TheVariants as kinds
use Rattle.arm_decode.specs.declared.parts.Opcode.{Opcode}
use Rattle.arm_decode.specs.declared.parts.Opcode.TheVariants.{And, Eor, Sub, Rsb, Add, Adc, Sbc, Rsc, Tst, Teq, Cmp, Cmn, Orr, Mov, Bic, Mvn}
use Rattle.arm_decode.specs.declared.data.ComputingFields.{ComputingFields}
use Rattle.arm_lift_alu.specs.declared.shifter.CarryIn.TheVariants.{Clear, Set}
use Rattle.arm_lift_alu.specs.Operands as parts
use Rattle.arm_lift_alu.specs.Computing as lifts

by_number_alike : (kind : ShiftKind) (v : Expression) (n : ℕ) → parts.through_carry kind n ≡ false →
    parts.by_number kind Clear v n ≡ parts.by_number kind Set v n
by_number_alike Lsl v zero h = refl
by_number_alike Lsr v zero h = refl
by_number_alike Asr v zero h = refl
by_number_alike Ror v zero h = cc
by_number_alike kind v (suc n) h = refl

operand_alike : (o : operands.Operand) (at : ℕ) → parts.is_rrx o ≡ false → parts.operand o Clear at ≡ parts.operand o Set at
operand_alike (kinds.Number byte rotation) at h = refl
operand_alike (kinds.ByNumber r kind amount) at h = by_number_alike kind (parts.register r.number at) amount.bits h
operand_alike (kinds.ByRegister r kind amount) at h = refl

value_alike : (o : Opcode) (x y : Expression) → lifts.adds_carry o ≡ false → lifts.value o Clear x y ≡ lifts.value o Set x y
value_alike And x y h = refl
value_alike Eor x y h = refl
value_alike Sub x y h = refl
value_alike Rsb x y h = refl
value_alike Add x y h = refl
value_alike Adc x y h = cc
value_alike Sbc x y h = cc
value_alike Rsc x y h = cc
value_alike Tst x y h = refl
value_alike Teq x y h = refl
value_alike Cmp x y h = refl
value_alike Cmn x y h = refl
value_alike Orr x y h = refl
value_alike Mov x y h = refl
value_alike Bic x y h = refl
value_alike Mvn x y h = refl

carry_alike : (o : Opcode) (x y z : Expression) → lifts.adds_carry o ≡ false → lifts.carry o Clear x y z ≡ lifts.carry o Set x y z
carry_alike And x y z h = refl
carry_alike Eor x y z h = refl
carry_alike Sub x y z h = refl
carry_alike Rsb x y z h = refl
carry_alike Add x y z h = refl
carry_alike Adc x y z h = cc
carry_alike Sbc x y z h = cc
carry_alike Rsc x y z h = cc
carry_alike Tst x y z h = refl
carry_alike Teq x y z h = refl
carry_alike Cmp x y z h = refl
carry_alike Cmn x y z h = refl
carry_alike Orr x y z h = refl
carry_alike Mov x y z h = refl
carry_alike Bic x y z h = refl
carry_alike Mvn x y z h = refl

-- what is assigned behind the overflow
pub carried_alike : (i : ComputingFields) (at : ℕ) (rest : Statements) → lifts.adds_carry i.opcode ≡ false → parts.is_rrx i.operand ≡ false →
    lifts.carried i Clear at rest ≡ lifts.carried i Set at rest
carried_alike i at rest adds has =
    let x : Expression = parts.register i.rn.number at in
    let same = operand_alike i.operand at has in
    let v : lifts.value_of i Clear at ≡ lifts.value_of i Set at
    = ap (λ y. lifts.value i.opcode Clear x y) same ∙ value_alike i.opcode x (parts.operand i.operand Set at) adds in
    let c : lifts.carry_of i Clear at ≡ lifts.carry_of i Set at
    = ap (λ y. lifts.carry i.opcode Clear x y (parts.shifter_carry i.operand at)) same
    ∙ carry_alike i.opcode x (parts.operand i.operand Set at) (parts.shifter_carry i.operand at) adds in
    ap (λ e. lifts.flag_if (lifts.assigns_carry i) 1 e (Assign (bil.Register RRegisters i.rd.number) (lifts.value_of i Clear at) rest)) c
    ∙ ap (λ e. lifts.flag_if (lifts.assigns_carry i) 1 (lifts.carry_of i Set at) (Assign (bil.Register RRegisters i.rd.number) e rest)) v

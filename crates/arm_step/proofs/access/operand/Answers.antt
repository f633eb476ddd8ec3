use Rattle.std.proofs.Common.{◌∙◌, ◌%◌, ap, subst}
use Rattle.word_spec.specs.State.{flag_c}
use Rattle.word_spec.specs.Words.{bit}
use Rattle.machine_spec.specs.Arm.{reg}
use Rattle.arm_decode.specs.declared.parts.Operand.{Operand}
use Rattle.arm_decode.specs.Parts.{HasOperand, kind_number}
use Rattle.arm_step.specs.Parts.{shifted_of}
use Rattle.arm_step.specs.States.{state_of}
use Rattle.arm_step.proofs.Operands.{number, shifted_by_number, shifted_by_register}
use Rattle.arm_step.proofs.access.operand.Goals as goal

pub returns-in-Number : goal.returns-in-Number
returns-in-Number c = λ w h.
    let k = subst (λ (o : Operand). HasOperand w o) c.in-Number.is h in
    number w (state_of c.args.state.now) (shifted_of c.rotated.result) (bit c.flags-carry.result.c) k.0 (ap (λ f. f flag_c) c.flags-carry.ensures)
    (c.rotated.ensures w k.1 k.2)

pub returns-in-ByNumber : goal.returns-in-ByNumber
returns-in-ByNumber c = λ w h.
    let s = state_of c.args.state.now in
    let k = subst (λ (o : Operand). HasOperand w o) c.in-ByNumber.is h in
    shifted_by_number w s (shifted_of c.by_number.result) (kind_number c.in-ByNumber.kind) c.in-ByNumber.amount.bits c.read_any.result
    (bit c.flags-carry.result.c)
    k.0 k.1 k.3 k.4 (c.read_any.ensures ∙ ap (reg s) k.2) (ap (λ f. f flag_c) c.flags-carry.ensures) c.by_number.ensures

pub returns-in-ByRegister : goal.returns-in-ByRegister
returns-in-ByRegister c = λ w h.
    let s = state_of c.args.state.now in
    let k = subst (λ (o : Operand). HasOperand w o) c.in-ByRegister.is h in
    shifted_by_register w s (shifted_of c.by_register.result) (kind_number c.in-ByRegister.kind) (c.read.result % 256) c.read-in-ByRegister.result
    (bit c.flags-carry.result.c)
    k.0 k.1 k.3 (ap (λ x. x % 256) (c.read.ensures.reg ∙ ap (reg s) k.4)) (c.read-in-ByRegister.ensures.reg ∙ ap (reg s) k.2)
    (ap (λ f. f flag_c) c.flags-carry.ensures) c.by_register.ensures

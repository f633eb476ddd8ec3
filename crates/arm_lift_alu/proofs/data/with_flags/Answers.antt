use Rattle.std.proofs.Common.{ap, ◌∙◌, not}
use Rattle.machine_spec.specs.Bil as bil
use Rattle.bil_ast.specs.Views.{expression}
use Rattle.arm_lift_alu.specs.Before.{before}
use Rattle.arm_lift_alu.specs.Operands.{own}
use Rattle.arm_lift_alu.specs.Computing as lifts
use Rattle.arm_lift_alu.proofs.Pushed.{whole}
use Rattle.arm_lift_alu.proofs.data.with_flags.Goals as goal

pub returns : goal.returns
returns c =
    let i = c.args.insn in
    let at = c.args.at in
    let signs = lifts.signs (expression c.own.result) bil.Empty in
    let made : bil.Statements → bil.Statements = λ z. lifts.flag_if (not (lifts.is_logical i.opcode)) 0 (lifts.overflow_of i at) (lifts.carried_by (lifts.needs_carry i) i at z) in
    whole c.push_signs.new.list.items ∙ c.in_ok-push_signs.ensures bil.Empty ∙ c.in_ok-push_carried_by.ensures signs
    ∙ c.in_ok-push_overflow.ensures (lifts.carried_by (lifts.needs_carry i) i at signs) ∙ ap (λ l. before l (made signs)) c.new-list.ensures.items
    ∙ ap (λ e. made (lifts.signs e bil.Empty)) c.own.ensures
    ∙ ap (λ r. made (lifts.signs (own r) bil.Empty)) c.number-rd.ensures.same

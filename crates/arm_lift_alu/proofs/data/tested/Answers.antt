use Rattle.std.proofs.Common.{ap, ◌∙◌, not}
use Rattle.machine_spec.specs.Bil as bil
use Rattle.bil_ast.specs.Views.{expression}
use Rattle.arm_lift_alu.specs.Before.{before}
use Rattle.arm_lift_alu.specs.Computing as lifts
use Rattle.arm_lift_alu.proofs.Pushed.{whole}
use Rattle.arm_lift_alu.specs.declared.shifter.CarryIn.TheVariants.{Flag}
use Rattle.arm_lift_alu.proofs.data.tested.Goals as goal

pub returns : goal.returns
returns c =
    let i = c.args.insn in
    let at = c.args.at in
    let last = lifts.flag_if (lifts.assigns_carry i) 1 (lifts.carry_of i Flag at) bil.Empty in
    let rest = lifts.flag_if (not (lifts.is_logical i.opcode)) 0 (lifts.overflow_of i at) last in
    whole c.push_carry.new.list.items ∙ c.in_ok-push_carry.ensures bil.Empty ∙ c.in_ok-push_overflow.ensures last ∙ c.in_ok-push_signs.ensures rest
    ∙ ap (λ l. before l (lifts.signs (expression c.in_ok-value.value) rest)) c.new-list.ensures.items
    ∙ ap (λ e. lifts.signs e rest) c.in_ok-value.ensures

use Rattle.std.proofs.Common.{ap, ◌∙◌}
use Rattle.machine_spec.specs.Arm as rows
use Rattle.byte_mem.specs.Views.{endian_of}
use Rattle.arm_lift_alu.specs.MultipliedLong as lifts
use Rattle.arm_lift_alu.proofs.LongProducts.{multiplied_long_lifting}
use Rattle.arm_lift_alu.proofs.Returned.{returned}
use Rattle.arm_lift_alu.proofs.multiplying_long.lift_multiply_long.Goals as goal

pub returns : goal.returns
returns c =
    let o = endian_of c.args.order in
    let w = c.args.insn.now.word in
    let keeps = c.args.insn.now.keeps in
    let k = c.condition-condition.result in
    let i = c.fields.result in
    returned o (rows.multiply_long keeps w) c.args.at k _ (lifts.multiplied_long keeps i) c.conditional.result
    (c.in_ok-list.ensures ∙ ap (λ b. lifts.multiplied_long b i) c.keeps.ensures) c.conditional.ensures
    (multiplied_long_lifting o w c.args.at keeps k i c.condition-condition.ensures c.fields.ensures c.args.insn.now.row.1)

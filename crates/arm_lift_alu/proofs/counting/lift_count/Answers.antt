use Rattle.std.proofs.Common.{ap, ◌∙◌}
use Rattle.machine_spec.specs.Arm as rows
use Rattle.byte_mem.specs.Views.{endian_of}
use Rattle.arm_lift_alu.specs.Counted as lifts
use Rattle.arm_lift_alu.proofs.Counts.{counted_lifting}
use Rattle.arm_lift_alu.proofs.Returned.{returned}
use Rattle.arm_lift_alu.proofs.counting.lift_count.Goals as goal

pub returns : goal.returns
returns c =
    let o = endian_of c.args.order in
    let w = c.args.insn.now.word in
    let k = c.condition-condition.result in
    let i = c.fields-fields.result in
    returned o (rows.count w) c.args.at k _ (lifts.counted i.rd.number i.rm.number) c.conditional.result
    (c.in_ok-list.ensures ∙ ap (λ d. lifts.counted d c.number-2.result) c.number.ensures.same ∙ ap (lifts.counted i.rd.number) c.number-2.ensures.same)
    c.conditional.ensures
    (counted_lifting o w c.args.at k i c.condition-condition.ensures c.fields-fields.ensures)

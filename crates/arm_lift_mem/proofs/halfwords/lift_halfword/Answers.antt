use Rattle.machine_spec.specs.Arm as rows
use Rattle.byte_mem.specs.Views.{endian_of}
use Rattle.arm_lift_mem.specs.Halfwords as lifts
use Rattle.arm_lift_mem.proofs.HalfwordRows.{halfword_lifting}
use Rattle.arm_lift_alu.proofs.Returned.{returned}
use Rattle.arm_lift_mem.proofs.halfwords.lift_halfword.Goals as goal

pub returns : goal.returns
returns c =
    let w = c.args.insn.now.word in
    let o = endian_of c.args.order in
    let k = c.condition-condition.result in
    let i = c.fields.result in
    returned o (rows.halfword o w) c.args.at k _ (lifts.halfword i o c.args.at) c.conditional.result c.in_ok-list.ensures c.conditional.ensures
    (halfword_lifting o w c.args.at k i c.condition-condition.ensures c.fields.ensures c.args.insn.now.row.1)

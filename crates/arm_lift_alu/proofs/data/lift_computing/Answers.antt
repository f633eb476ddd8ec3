use Rattle.machine_spec.specs.Arm as rows
use Rattle.byte_mem.specs.Views.{endian_of}
use Rattle.arm_lift_alu.specs.Computing as lifts
use Rattle.arm_lift_alu.proofs.DataRows.{computing_lifting}
use Rattle.arm_lift_alu.proofs.Returned.{returned}
use Rattle.arm_lift_alu.proofs.data.lift_computing.Goals as goal

pub returns : goal.returns
returns c =
    let o = endian_of c.args.order in
    let w = c.args.insn.now.word in
    let k = c.condition-condition.result in
    let i = c.fields.result in
    returned o (rows.computing w) c.args.at k _ (lifts.computed i c.args.at) c.conditional.result c.in_ok-list.ensures c.conditional.ensures
    (computing_lifting o w c.args.at k i c.condition-condition.ensures c.fields.ensures c.args.insn.now.row.1)

use Rattle.machine_spec.specs.Arm as rows
use Rattle.byte_mem.specs.Views.{endian_of}
use Rattle.arm_lift_alu.specs.Lifted as lifts
use Rattle.arm_lift_alu.proofs.Branches.{software_interrupt_lifting}
use Rattle.arm_lift_alu.proofs.Returned.{returned}
use Rattle.arm_lift_alu.proofs.interrupting.lift_software_interrupt.Goals as goal

pub returns : goal.returns
returns c =
    let o = endian_of c.args.order in
    let w = c.args.insn.now.word in
    let k = c.condition-condition.result in
    returned o (rows.software_interrupt w) c.args.at k _ lifts.software_interrupt c.conditional.result c.in_ok-list.ensures c.conditional.ensures
    (software_interrupt_lifting o w c.args.at k c.condition-condition.ensures)

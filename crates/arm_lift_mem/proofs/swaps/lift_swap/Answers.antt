use Rattle.machine_spec.specs.Arm as rows
use Rattle.byte_mem.specs.Views.{endian_of}
use Rattle.arm_lift_mem.specs.Swaps as lifts
use Rattle.arm_lift_mem.proofs.SwapRows.{swap_lifting}
use Rattle.arm_lift_alu.proofs.Returned.{returned}
use Rattle.arm_lift_mem.proofs.swaps.lift_swap.Goals as goal

pub returns : goal.returns
returns c =
    let w = c.args.insn.now.word in
    let o = endian_of c.args.order in
    let k = c.condition-condition.result in
    let i = c.fields.result in
    returned o (rows.swap o w) c.args.at k _ (lifts.swap i o) c.conditional.result c.in_ok-list.ensures c.conditional.ensures
    (swap_lifting o w c.args.at k i c.condition-condition.ensures c.fields.ensures c.args.insn.now.row.1)

use Rattle.std.proofs.Common.{refl}
use Rattle.word_spec.specs.Words.{add}
use Rattle.machine_spec.specs.Arm as rows
use Rattle.byte_mem.specs.Views.{endian_of}
use Rattle.arm_lift_alu.specs.Lifted as lifts
use Rattle.arm_lift_alu.proofs.Branches.{branch_lifting}
use Rattle.arm_lift_alu.proofs.Returned.{returned}
use Rattle.arm_lift_alu.proofs.branching.lift_branch.Goals as goal

pub returns : goal.returns
returns c =
    let o = endian_of c.args.order in
    let w = c.args.insn.now.word in
    let k = c.condition-condition.result in
    let linked = c.fields-linked.result.is_linked in
    let to = c.target.result in
    let behind = add 32 c.args.at 4 in
    returned o (rows.branch w) c.args.at k _ (lifts.branch linked to behind) c.conditional.result c.in_ok-list.ensures c.conditional.ensures
    (branch_lifting o w c.args.at k linked to behind c.condition-condition.ensures c.fields-linked.ensures.is_linked c.target.ensures refl)

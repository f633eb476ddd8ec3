use Rattle.std.proofs.Common.{ap, ◌∙◌}
use Rattle.machine_spec.specs.Arm as rows
use Rattle.byte_mem.specs.Views.{endian_of}
use Rattle.machine_spec.specs.Bil.{Empty, JumpTo}
use Rattle.arm_lift_alu.specs.Lifted as lifts
use Rattle.arm_lift_alu.proofs.Branches.{exchange_lifting}
use Rattle.arm_lift_alu.proofs.Returned.{returned}
use Rattle.arm_lift_alu.proofs.exchanging.lift_exchange.Goals as goal

pub returns : goal.returns
returns c =
    let o = endian_of c.args.order in
    let w = c.args.insn.now.word in
    let k = c.condition-condition.result in
    let r = c.rm.result in
    returned o (rows.exchange w) c.args.at k _ (lifts.exchange r.number) c.conditional.result
    (c.in_ok-list.ensures ∙ ap (λ e. JumpTo e Empty) c.own.ensures ∙ ap lifts.exchange c.number.ensures.same) c.conditional.ensures
    (exchange_lifting o w c.args.at k r c.condition-condition.ensures c.rm.ensures)

use Rattle.std.proofs.Common.{◌∙◌, ap, sym}
use Rattle.machine_spec.specs.Arm.{holds, is_load, is_byte, access_of}
use Rattle.arm_step.specs.States.{state_of}
use Rattle.arm_step.proofs.WholeRows.{stores_where}
use Rattle.arm_step.proofs.transfers.TransferStep.stored.Goals as goal

pub returns : goal.returns
returns c = λ e.
    let w = c.args.self.word in
    let x = c.fields-fields.ensures in
    stores_where (holds w (state_of c.args.state.now)) (is_load w) _ _ c.requires (sym x.is_load ∙ c.if-fields.false)
    (c.access_of.ensures ∙ ap (λ b. access_of b c.transfer_address.result) x.is_byte ∙ ap (access_of (is_byte w)) (c.transfer_address.ensures w x))

use Rattle.std.proofs.Common.{◌∙◌, ap}
use Rattle.machine_spec.specs.Arm.{stored_reg}
use Rattle.byte_mem.specs.Views.{endian_of}
use Rattle.arm_step.specs.States.{state_of}
use Rattle.arm_step.proofs.Accesses.{stores}
use Rattle.arm_step.proofs.transfers.store.Goals as goal

pub returns-clause-step : goal.returns-clause-step
returns-clause-step c = λ w x l.
    let s = state_of c.args.state.now in
    let r = c.args.fields in
    stores w (endian_of c.args.endian) s c.args.choice (state_of c.store_by.new.state) (state_of c.write_back.new.state)
    (state_of c.go_on.new.self) c.go_on.result r.is_byte
    c.transfer_address-a.result c.read_stored-value.result c.offset_of-offset.result c.store_by.ensures.state (c.write_back.ensures.state w x.addressing x.rn l)
    c.go_on.ensures.state c.go_on.ensures.out x.is_byte (c.transfer_address-a.ensures w x) (c.read_stored-value.ensures ∙ ap (stored_reg s c.args.choice) x.rd)
    (c.offset_of-offset.ensures w x.offset)

use Rattle.std.proofs.Common.{ap, sym}
use Rattle.byte_mem.specs.Views.{endian_of}
use Rattle.arm_step.specs.States.{state_of}
use Rattle.arm_step.proofs.Accesses.{loads}
use Rattle.arm_step.proofs.transfers.load.Goals as goal

pub returns-clause-step : goal.returns-clause-step
returns-clause-step c = λ w x l.
    let s = state_of c.args.state.now in
    let r = c.args.fields in
    let m = c.write_back.ensures.state w x.addressing x.rn l in
    loads w (endian_of c.args.endian) s (state_of c.write_back.new.state)
    (state_of c.write.new.state) c.write.result c.is_unaligned.result r.is_byte c.transfer_address-a.result
    c.load_by-value.result r.rd.number c.offset_of-offset.result c.if-is_unaligned.false c.is_unaligned.ensures x.rd
    (c.transfer_address-a.ensures w x) c.load_by-value.ensures x.is_byte
    (c.offset_of-offset.ensures w x.offset) m (c.write.ensures.step s (ap (λ t. t.pc) (sym m)))

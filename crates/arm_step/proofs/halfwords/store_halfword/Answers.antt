use Rattle.std.proofs.Common.{◌∙◌, ap}
use Rattle.byte_mem.specs.Views.{endian_of}
use Rattle.arm_step.specs.States.{state_of}
use Rattle.arm_step.proofs.Accesses.{half_stores}
use Rattle.arm_step.proofs.halfwords.store_halfword.Goals as goal

pub returns-clause-step : goal.returns-clause-step
returns-clause-step c = λ w x l.
    let s = state_of c.args.state.now in
    half_stores w (endian_of c.args.endian) s (state_of c.store.new.self) (state_of c.write_back.new.state) (state_of c.go_on.new.self) c.go_on.result
    c.halfword_offset_of-offset.result c.halfword_address-a.result c.read-value.result c.store.ensures.state (c.write_back.ensures.state w x.addressing x.rn l)
    c.go_on.ensures.state c.go_on.ensures.out (c.halfword_offset_of-offset.ensures w x.offset) (c.halfword_address-a.ensures w x)
    (c.read-value.ensures.regs ∙ ap s.regs x.rd)

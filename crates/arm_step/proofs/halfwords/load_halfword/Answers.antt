use Rattle.std.proofs.Common.{◌∙◌, ap}
use Rattle.machine_spec.specs.Arm.{halfword_value}
use Rattle.byte_mem.specs.Views.{endian_of}
use Rattle.arm_step.specs.States.{state_of}
use Rattle.arm_step.proofs.Accesses.{half_loads}
use Rattle.arm_step.proofs.halfwords.load_halfword.Goals as goal

pub returns-clause-step : goal.returns-clause-step
returns-clause-step c = λ w x l.
    let s = state_of c.args.state.now in
    let e = endian_of c.args.endian in
    half_loads w e s (state_of c.write_back.new.state) (state_of c.set.new.self) (state_of c.go_on.new.self) c.go_on.result
    c.halfword_offset_of-offset.result c.args.fields.rd.number c.halfword_value-value.result
    (c.write_back.ensures.state w x.addressing x.rn l) c.set.ensures.state
    c.go_on.ensures.state c.go_on.ensures.out (c.halfword_offset_of-offset.ensures w x.offset) x.rd
    (c.halfword_value-value.ensures w x.op ∙ ap (halfword_value e w s.mem) (c.halfword_address-a.ensures w x))

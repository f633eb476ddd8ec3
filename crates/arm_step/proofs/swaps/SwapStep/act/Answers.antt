use Rattle.std.proofs.Common.{◌∙◌, ap}
use Rattle.machine_spec.specs.Arm.{reg}
use Rattle.byte_mem.specs.Views.{endian_of}
use Rattle.arm_step.specs.States.{state_of}
use Rattle.arm_step.proofs.Accesses.{swaps}
use Rattle.arm_step.proofs.swaps.SwapStep.act.Goals as goal

pub returns-clause-step : goal.returns-clause-step
returns-clause-step c = rw c.requires.holds (
    let s = state_of c.args.state.now in
    let x = c.fields-fields.ensures in
    let r = c.fields-fields.result in
    swaps c.args.self.word (endian_of c.args.endian) s (state_of c.store_by.new.state) (state_of c.set.new.self) (state_of c.go_on.new.self) c.go_on.result
    r.is_byte c.read-a.result c.read-stored.result c.load_by-loaded.result r.rd.number c.store_by.ensures.state c.set.ensures.state c.go_on.ensures.state
    c.go_on.ensures.out
    x.is_byte (c.read-a.ensures.reg ∙ ap (reg s) x.rn) (c.read-stored.ensures.reg ∙ ap (reg s) x.rm) c.load_by-loaded.ensures x.rd
    )

use Rattle.std.proofs.Common.{◌∙◌, ap}
use Rattle.machine_spec.specs.Arm.{reg}
use Rattle.arm_step.specs.States.{state_of}
use Rattle.arm_step.proofs.Computations.{counts}
use Rattle.arm_step.proofs.counts.CountStep.act.Goals as goal

pub returns-clause-step : goal.returns-clause-step
returns-clause-step c = rw c.requires.holds (
    let x = c.fields-fields.ensures in
    counts c.args.self.word c.read-value.result c.fields-fields.result.rd.number (state_of c.args.state.now) (state_of c.set.new.self)
    (state_of c.go_on.new.self) c.go_on.result c.set.ensures.state c.go_on.ensures.state c.go_on.ensures.out x.rd
    (c.read-value.ensures.reg ∙ ap (reg (state_of c.args.state.now)) x.rm)
    )

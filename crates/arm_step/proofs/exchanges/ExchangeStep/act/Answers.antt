use Rattle.std.proofs.Common.{◌∙◌, ap}
use Rattle.word_spec.specs.State.{with_pc}
use Rattle.machine_spec.specs.Arm.{reg}
use Rattle.byte_mem.specs.declared.StepOut.TheVariants.{Jump}
use Rattle.byte_mem.specs.declared.How.TheVariants.{Indirect}
use Rattle.arm_step.specs.States.{state_of}
use Rattle.arm_step.proofs.exchanges.ExchangeStep.act.Goals as goal

pub returns-clause-step : goal.returns-clause-step
returns-clause-step c = rw c.requires.holds (
    let s = state_of c.args.state.now in
    let to = c.read-to.ensures.reg ∙ ap (reg s) c.rm.ensures in
    (c.jump.ensures.state ∙ ap (with_pc s) to, c.jump.ensures.out ∙ ap (λ a. Jump a Indirect) to)
    )

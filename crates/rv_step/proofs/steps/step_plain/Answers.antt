use Rattle.std.proofs.Common.{ap, ◌∙◌}
use Rattle.word_spec.specs.Words.{add}
use Rattle.machine_spec.specs.Machine.{even}
use Rattle.rv_step.specs.States.{state_of}
use Rattle.rv_step.proofs.Shortened.{jal_step, jalr_step}
use Rattle.rv_step.proofs.steps.step_plain.Goals as goal

pub returns-in-Jal-clause-step : goal.returns-in-Jal-clause-step
returns-in-Jal-clause-step c half choice e is =
    jal_step c.args.plain c.in-Jal.rd c.in-Jal.offset half c.args.length choice (state_of c.args.state.now) (state_of c.link_and_jump.new.self)
    c.link_and_jump.result c.direct.result (add 32 c.pc-in-Jal.result c.in-Jal.offset) c.in-Jal.is e is
    (ap (λ v. add 32 v c.in-Jal.offset) c.pc-in-Jal.ensures) c.direct.ensures c.link_and_jump.ensures.out c.link_and_jump.ensures.state

pub returns-in-Jalr-clause-step : goal.returns-in-Jalr-clause-step
returns-in-Jalr-clause-step c half choice e is =
    jalr_step c.args.plain c.in-Jalr.rd c.in-Jalr.rs1 c.in-Jalr.offset half c.args.length choice (state_of c.args.state.now)
    (state_of c.link_and_jump-in-Jalr.new.self) c.link_and_jump-in-Jalr.result c.indirect.result c.even-to.result c.in-Jalr.is e is
    (c.even-to.ensures ∙ ap (λ v. even (add 32 v c.in-Jalr.offset)) c.read.ensures) c.indirect.ensures c.link_and_jump-in-Jalr.ensures.out
    c.link_and_jump-in-Jalr.ensures.state

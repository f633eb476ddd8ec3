use Rattle.rv_step.specs.States.{state_of}
use Rattle.rv_step.proofs.Shortened.{short_step}
use Rattle.rv_step.proofs.steps.step.Goals as goal

pub returns-clause-short : goal.returns-clause-short
returns-clause-short c h w row e x r =
    short_step c.args.insn.now (state_of c.args.state.now) (state_of c.step_plain.new.state) c.step_plain.result c.args.choice h w row
    (c.step_plain.ensures.step c.args.insn.now.half c.args.choice c.length.ensures.of_half c.args.insn.now.of_half) e x r

use Rattle.std.proofs.Common.{◌∙◌, sym}
use Rattle.frame_verdict.proofs.EarlyFrames.{step_later}
use Rattle.frame_verdict.proofs.smaller.ask_steps.Goals as goal

pub returns-then-not-passive : goal.returns-then-not-passive
returns-then-not-passive c f contracts k m layout whole is count = (
  c.requires.fail f contracts k m layout whole is count,
  sym is.small.ground.heads ∙ c.if-not-passive.true,
  c.requires.turn f contracts k m layout whole is count,
)

pub returns-in-Refuted : goal.returns-in-Refuted
returns-in-Refuted c f contracts k m layout whole is count = (
  c.requires.fail f contracts k m layout whole is count,
  (
    sym is.small.ground.heads ∙ c.if-not-passive.false,
    step_later c.args.passive.now.unrolled.now c.args.conflicts c.args.inputs c.args.asked.items _ c.in-Refuted.step c.over_variables-step.result
        c.requires.never c.in_ok-answered.ensures c.in-Refuted.is c.over_variables-step.ensures f contracts k m layout whole is count,
  ),
  c.requires.turn f contracts k m layout whole is count,
)

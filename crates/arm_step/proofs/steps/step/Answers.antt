use Rattle.std.proofs.Common.{◌∙◌, sym}
use Rattle.byte_mem.specs.Views.{endian_of}
use Rattle.arm_step.specs.States.{state_of}
use Rattle.arm_step.proofs.WholeRows.{skips}
use Rattle.arm_step.proofs.steps.step.Goals as goal

pub returns-then-not-holds-clause-step : goal.returns-then-not-holds-clause-step
returns-then-not-holds-clause-step c =
    skips (endian_of c.args.endian) c.args.insn.now (state_of c.args.state.now) (state_of c.go_on.new.self) c.go_on.result c.args.choice
    (sym c.holds.ensures ∙ c.if-not-holds.true) c.go_on.ensures.state c.go_on.ensures.out

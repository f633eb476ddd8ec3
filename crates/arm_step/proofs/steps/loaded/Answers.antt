use Rattle.std.proofs.Common.{◌∙◌, sym}
use Rattle.arm_step.specs.States.{state_of}
use Rattle.arm_step.proofs.WholeRows.{loads_not}
use Rattle.arm_step.proofs.steps.loaded.Goals as goal

pub returns-then-not-holds : goal.returns-then-not-holds
returns-then-not-holds c = λ e. loads_not e c.args.insn.now (state_of c.args.state.now) (sym c.holds.ensures ∙ c.if-not-holds.true)

use Rattle.std.proofs.Common.{sym}
use Rattle.arm_decode.specs.Insns.{word_of}
use Rattle.arm_step.specs.States.{state_of}
use Rattle.arm_step.proofs.steps.holds.Goals as goal

pub returns : goal.returns
returns c = c.hold.ensures (state_of c.args.state.now) (word_of c.args.insn.now) (sym c.flags.ensures) (sym c.condition.ensures)

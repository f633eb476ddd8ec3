use Rattle.arm_step.proofs.Bits.{flags_at}
use Rattle.arm_step.proofs.flags.Flags.of.Goals as goal

pub returns : goal.returns
returns c = flags_at c.args.bits c.requires

use Rattle.std.proofs.Common.{arith}
use Rattle.state_text.proofs.Keeping.{number_more}
use Rattle.state_text.proofs.draft.flags_of.Goals as goal

pub loop-bit-preserved : goal.loop-bit-preserved
loop-bit-preserved c = omega (arith, c.loop-bit.invariant, number_more c.args.bits.now c.loop-bit.bit-index c.loop-bit-test.true)

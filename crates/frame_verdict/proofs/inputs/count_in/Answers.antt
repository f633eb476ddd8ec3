use Rattle.std.proofs.Common.{◌+◌, refl, arith}
use Rattle.frame_verdict.proofs.FreeCounts.{counted, small_bit}
use Rattle.frame_verdict.proofs.inputs.count_in.Goals as goal

pub loop-i-preserved : goal.loop-i-preserved
loop-i-preserved c = (
  counted c.args.set c.args.from c.loop-i.i c.loop-i.members _ c.loop-i.invariant.0 refl,
  (let most = c.loop-i.invariant.1 in let one = small_bit (c.args.from + c.loop-i.i) c.args.set in omega (arith, most, one)),
)

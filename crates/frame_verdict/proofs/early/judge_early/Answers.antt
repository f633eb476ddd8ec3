use Rattle.std.proofs.Common.{arith}
use Rattle.frame_verdict.proofs.early.judge_early.Goals as goal

pub loop-turns-init : goal.loop-turns-init
loop-turns-init g c = (omega arith, omega (arith, c.min-most.ensures))

pub loop-turns-smaller : goal.loop-turns-smaller
loop-turns-smaller g c = omega (arith, c.loop-turns.invariant, c.loop-turns-test.true)

pub loop-turns-preserved : goal.loop-turns-preserved
loop-turns-preserved g c = (omega (arith, c.loop-turns.invariant), omega (arith, c.loop-turns.invariant))

use Rattle.std.proofs.Common.{arith}
use Rattle.byte_mem.proofs.Numbers.{lower, lower_below}
use Rattle.term_dag.proofs.values.lowest_first.Goals as goal

pub loop-i-preserved : goal.loop-i-preserved
loop-i-preserved c = record {
  number = lower _ _ _ _ _ c.loop-i-test.true c.byte.ensures c.loop-i.invariant.number;
  below = lower_below _ _ _ _ c.loop-i-test.true (omega arith) (omega arith) c.loop-i.invariant.below;
}

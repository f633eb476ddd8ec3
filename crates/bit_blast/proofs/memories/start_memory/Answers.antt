use Rattle.std.proofs.Common.{◌+◌, ◌-◌, ◌<◌, length, arith}
use Rattle.bit_blast.proofs.StoredBytes.{run_front}
use Rattle.bit_blast.proofs.memories.start_memory.Goals as goal

pub loop-i-preserved : goal.loop-i-preserved
loop-i-preserved c =
    let n = length c.args.runs.now in
    let i = c.loop-i.i in
    let t : i < n = omega arith in
    record {
      value = λ x.
          run_front c.args.runs.now c.args.bytes.now (n - 1 - i) (n - i) (n - (i + 1)) _ x _ _ c.requires.rising c.requires.unknown (omega arith) (omega arith)
          (omega arith) (c.loop-i.invariant.value x)
          (c.in_ok-fill.ensures.value x);
      below = c.in_ok-fill.ensures.below c.loop-i.invariant.below;
    }

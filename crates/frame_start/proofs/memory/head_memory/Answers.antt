use Rattle.std.proofs.Common.{◌+◌, ◌-◌, ◌<◌, length, map, arith}
use Rattle.question_form.specs.Views.{kept_of}
use Rattle.frame_start.proofs.KeptBytes.{kept_front}
use Rattle.frame_start.proofs.memory.head_memory.Goals as goal

pub loop-i-preserved : goal.loop-i-preserved
loop-i-preserved c =
    let n = length c.args.runs.now in
    let i = c.loop-i.i in
    let t : i < n = omega arith in
    record {
      value = λ x.
          kept_front (map kept_of c.args.kept.now) c.args.runs.now c.args.bytes.now (n - 1 - i) (n - i) (n - (i + 1)) _ x _ _ c.requires.rising
          c.requires.unknown (omega arith) (omega arith) (omega arith) (c.loop-i.invariant.value x) (c.in_ok-fill_kept.ensures.value x);
      below = c.in_ok-fill_kept.ensures.below c.loop-i.invariant.below;
    }

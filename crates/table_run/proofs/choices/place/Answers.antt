use Rattle.std.proofs.Common.{◌<◌, ◌+◌, ◌-◌, ◌/◌, length, arith}
use Rattle.byte_mem.proofs.Places.{below_place, from_place}
use Rattle.table_run.proofs.choices.place.Goals as goal

pub loop-low-preserved-then-choices-middle : goal.loop-low-preserved-then-choices-middle
loop-low-preserved-then-choices-middle c =
    let inside : c.loop-low.low + (c.loop-low.high - c.loop-low.low) / 2 < length c.args.choices.now = omega arith in
    record {
      ordered = omega arith;
      within = c.loop-low.invariant.within;
      below = below_place _ _ _ _ c.requires inside c.if-choices-middle.true;
      from = c.loop-low.invariant.from;
    }

pub loop-low-preserved : goal.loop-low-preserved
loop-low-preserved c =
    let inside : c.loop-low.low + (c.loop-low.high - c.loop-low.low) / 2 < length c.args.choices.now = omega arith in
    record {
      ordered = omega arith;
      within = omega arith;
      below = c.loop-low.invariant.below;
      from = from_place _ _ _ _ c.requires inside c.if-choices-middle.false;
    }

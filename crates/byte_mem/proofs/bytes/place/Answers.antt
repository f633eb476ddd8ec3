use Rattle.std.proofs.Common.{◌<◌, ◌+◌, ◌-◌, ◌/◌, ℕ, length, ap, arith}
use Rattle.byte_mem.specs.Gaps.{entries_of}
use Rattle.byte_mem.proofs.Places.{below_place, from_place}
use Rattle.byte_mem.proofs.bytes.place.Goals as goal

pub loop-low-preserved-then-at-address : goal.loop-low-preserved-then-at-address
loop-low-preserved-then-at-address c =
    let inside : c.loop-low.low + (c.loop-low.high - c.loop-low.low) / 2 < length (entries_of c.args.g.now) = omega arith in
    let at = ap (λ (e : ℕ × ℕ). e.0) (c.entry-at.ensures (0, 0)) in
    record {
      ordered = omega arith;
      within = c.loop-low.invariant.within;
      below = below_place _ _ _ (0, 0) c.requires.rising inside (omega arith);
      from = c.loop-low.invariant.from;
    }

pub loop-low-preserved : goal.loop-low-preserved
loop-low-preserved c =
    let inside : c.loop-low.low + (c.loop-low.high - c.loop-low.low) / 2 < length (entries_of c.args.g.now) = omega arith in
    let at = ap (λ (e : ℕ × ℕ). e.0) (c.entry-at.ensures (0, 0)) in
    record {
      ordered = omega arith;
      within = omega arith;
      below = c.loop-low.invariant.below;
      from = from_place _ _ _ (0, 0) c.requires.rising inside (omega arith);
    }

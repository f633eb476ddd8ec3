use Rattle.std.proofs.Common.{arith, length, ◌<◌, ◌+◌, ◌-◌, ◌/◌, get_or, ℕ, ◌≡◌, ◌≤◌}
use Rattle.refutation_checker.specs.Entries.{ids_of}
use Rattle.refutation_checker.proofs.Places.{id-there, length-ids, below-more, above-more}
use Rattle.refutation_checker.proofs.entries.place.Goals as goal

pub loop-low-preserved-then-here-id-2 : goal.loop-low-preserved-then-here-id-2
loop-low-preserved-then-here-id-2 c =
    let es = c.args.entries.now in
    let inv = c.loop-low.invariant in
    let m = c.loop-low.low + (c.loop-low.high - c.loop-low.low) / 2 in
    let high : m < c.loop-low.high = omega arith in
    let lt : m < length es = omega arith in
    let e = c.index-entries-middle.result in
    let here = id-there es m e lt in
    record {
      order = omega arith;
      within = inv.within;
      below = below-more (ids_of es) m c.args.id c.requires (rw (length-ids es) lt) (get_or es m e).id here c.if-here-id-2.true;
      above = inv.above;
    }

lt_from : (v id : ℕ) → id ≤ v → (v ≡ id → ⊥) → id < v
lt_from v id h n = omega arith

pub loop-low-preserved : goal.loop-low-preserved
loop-low-preserved c =
    let es = c.args.entries.now in
    let inv = c.loop-low.invariant in
    let m = c.loop-low.low + (c.loop-low.high - c.loop-low.low) / 2 in
    let high : m < c.loop-low.high = omega arith in
    let lt : m < length es = omega arith in
    let e = c.index-entries-middle.result in
    let here = id-there es m e lt in
    let more = lt_from (get_or es m e).id c.args.id c.if-here-id-2.false c.if-here-id.false in
    record {
      order = omega arith;
      within = omega arith;
      below = inv.below;
      above = λ k le h. above-more (ids_of es) m c.args.id c.requires (rw (length-ids es) lt) (get_or es m e).id here more k le (rw (length-ids es) h);
    }

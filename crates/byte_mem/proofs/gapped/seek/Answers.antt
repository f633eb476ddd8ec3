use Rattle.std.proofs.Common.{arith}
use Rattle.byte_mem.proofs.Gaps.{total}
use Rattle.byte_mem.proofs.gapped.seek.Goals as goal

pub lower-requires-clause-room : goal.lower-requires-clause-room
lower-requires-clause-room c = let r = c.requires.room.above in omega arith

pub loop-g-2-init : goal.loop-g-2-init
loop-g-2-init c =
    let g = c.args.g.now in
    let all = total g.below.items g.above.items in
    let one = g.below.ok.0 in
    let other = g.above.ok.0 in
    record {
      entries = c.loop-g.invariant.entries;
      total = c.loop-g.invariant.total;
      capacity_below = c.loop-g.invariant.capacity_below;
      capacity_above = c.loop-g.invariant.capacity_above;
      place = omega arith;
      within = let w = c.requires.within in omega arith;
    }

pub raise-requires-clause-room : goal.raise-requires-clause-room
raise-requires-clause-room c = let r = c.requires.room.below in omega arith

pub returns-clause-room : goal.returns-clause-room
returns-clause-room c n room = record {
  below = let r = room.below in omega arith;
  above = let r = room.above in omega arith;
}

use Rattle.std.proofs.Common.{arith, rules, ◌+◌, ◌<◌, vec_len, vec_capacity}
use Rattle.byte_mem.proofs.gapped.insert.Goals as goal

pub unreachable-requires : goal.unreachable-requires
unreachable-requires c =
    let r = (c.seek.ensures.room 1 c.requires.room).below in
    let less : vec_len c.seek.new.g.below < vec_capacity c.seek.new.g.below = omega arith in
    search rules

pub returns-clause-room : goal.returns-clause-room
returns-clause-room c n room =
    let r = c.seek.ensures.room (n + 1) room in
    let b = r.below in
    let a = r.above in
    record { below = omega arith; above = omega arith }

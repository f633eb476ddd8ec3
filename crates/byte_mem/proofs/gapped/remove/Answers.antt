use Rattle.std.proofs.Common.{arith}
use Rattle.byte_mem.proofs.gapped.remove.Goals as goal

pub returns-clause-room : goal.returns-clause-room
returns-clause-room c n room =
    let r = c.seek.ensures.room n room in
    let b = r.below in
    let a = r.above in
    record { below = omega arith; above = omega arith }

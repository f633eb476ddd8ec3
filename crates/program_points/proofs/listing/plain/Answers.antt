use Rattle.std.proofs.Common.{arith}
use Rattle.program_points.proofs.Plain.{plain_next, plain_whole}
use Rattle.program_points.proofs.listing.plain.Goals as goal

pub loop-point-preserved : goal.loop-point-preserved
loop-point-preserved c =
    plain_next c.args.points.now c.loop-point.point-index _ c.loop-point.found.items c.push.new.self.items (omega arith) c.loop-point.invariant
    c.in_ok-push.ensures.items

pub returns : goal.returns
returns c = plain_whole c.args.points.now c.loop-point.point-index c.loop-point.found.items (omega arith) c.loop-point.invariant

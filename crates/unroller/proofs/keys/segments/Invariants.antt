use Rattle.std.proofs.Common.{◌≡◌, take, map}
use Rattle.unroller.specs.Keys.{segment_of}
use Rattle.unroller.proofs.keys.segments.Given as goal

abbrev pub invariant-loop-point : goal.invariant-loop-point
invariant-loop-point l = l.found.items ≡ map segment_of (take l.point-index l.points)

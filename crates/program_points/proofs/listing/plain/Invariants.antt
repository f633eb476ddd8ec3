use Rattle.std.proofs.Common.{◌≡◌, map, take}
use Rattle.program_points.specs.Listed.{plain_of}
use Rattle.program_points.proofs.listing.plain.Given as goal

abbrev pub invariant-loop-point : goal.invariant-loop-point
invariant-loop-point l = l.found.items ≡ map plain_of (take l.point-index l.points)

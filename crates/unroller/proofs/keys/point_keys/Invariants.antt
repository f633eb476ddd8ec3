use Rattle.std.proofs.Common.{◌≡◌, ◌<◌, take, map}
use Rattle.std.specs.Prelude.{Contains}
use Rattle.program_points.specs.declared.values.FramePoint.{FramePoint}
use Rattle.unroller.specs.Keys.{point_key}
use Rattle.unroller.proofs.keys.point_keys.Given as goal

abbrev pub invariant-loop-point : goal.invariant-loop-point
invariant-loop-point l = record {
  found : l.found.items ≡ map (point_key l.segments) (take l.point-index l.points);
  small : (q : FramePoint) → Contains (take l.point-index l.points) q → q.at < 4294967296;
}

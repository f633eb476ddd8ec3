use Rattle.std.proofs.Common.{◌≡◌, ◌<◌, take, map}
use Rattle.std.specs.Prelude.{Contains}
use Rattle.program_points.specs.declared.values.End.{End}
use Rattle.unroller.specs.Keys.{target_key}
use Rattle.unroller.proofs.edges.targets.Given as goal

abbrev pub invariant-loop-end : goal.invariant-loop-end
invariant-loop-end l = record {
  found : l.found.items ≡ map (target_key l.stepped l.linked l.own) (take l.end-index l.jumps);
  small : (e : End) → Contains (take l.end-index l.jumps) e → e.at < 4294967296;
}

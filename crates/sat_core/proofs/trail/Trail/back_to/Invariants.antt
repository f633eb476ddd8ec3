use Rattle.std.proofs.Common.{◌≡◌, length, take, vec_capacity, vec_len}
use Rattle.sat_core.specs.Trails.{IsTrail}
use Rattle.sat_core.proofs.trail.Trail.back_to.Given as goal

abbrev pub invariant-loop-self : goal.invariant-loop-self
invariant-loop-self l = record {
  trail : IsTrail l.self.table.items l.self.steps.items (vec_capacity l.self.steps);
  left : take l.count l.self.steps.items ≡ take l.count l.fn.self.steps.items;
  size : length l.self.table.items ≡ length l.fn.self.table.items;
}

abbrev pub decreases-loop-self : goal.decreases-loop-self
decreases-loop-self l = vec_len l.self.steps

use Rattle.std.proofs.Common.{◌≡◌, length, take, vec_capacity}
use Rattle.clause_spec.specs.Clauses.{Literal}
use Rattle.clause_spec.specs.UnitPropagation.{negations}
use Rattle.sat_core.specs.Tables.{true_in}
use Rattle.sat_core.specs.Trails.{IsTrail}
use Rattle.sat_core.proofs.trail.Trail.deny.Given as goal

abbrev pub invariant-loop-lit : goal.invariant-loop-lit
invariant-loop-lit l = record {
  trail : IsTrail l.self.table.items l.self.steps.items (vec_capacity l.self.steps);
  size : length l.self.table.items ≡ length l.fn.self.table.items;
  values : (m : Literal) → true_in l.self.table.items m ≡ negations (take l.lit-index l.clause) m;
}

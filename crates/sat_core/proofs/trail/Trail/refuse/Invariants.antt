use Rattle.std.proofs.Common.{◌≡◌, ◌++◌, List, true, length, take, vec_capacity}
use Rattle.clause_spec.specs.Clauses.{Literal, opposite, has}
use Rattle.clause_spec.specs.UnitPropagation.{Includes}
use Rattle.sat_core.specs.declared.trail.Step.{Step}
use Rattle.sat_core.specs.Tables.{true_in}
use Rattle.sat_core.specs.Trails.{IsTrail}
use Rattle.sat_core.proofs.trail.Trail.refuse.Given as goal

abbrev pub invariant-loop-lit : goal.invariant-loop-lit
invariant-loop-lit l = record {
  trail : IsTrail l.self.table.items l.self.steps.items (vec_capacity l.self.steps);
  size : length l.self.table.items ≡ length l.fn.self.table.items;
  steps : (more : List Step) × (l.self.steps.items ≡ l.fn.self.steps.items ++ more);
  grows : Includes (true_in l.fn.self.table.items) (true_in l.self.table.items);
  denied : (m : Literal) → has (take l.lit-index l.clause) m ≡ true → true_in l.self.table.items (opposite m) ≡ true;
}

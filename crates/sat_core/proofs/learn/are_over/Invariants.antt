use Rattle.std.proofs.Common.{◌≡◌, ◌≤◌, ◌<◌, true, take}
use Rattle.clause_spec.specs.Clauses.{Literal, has}
use Rattle.sat_core.proofs.learn.are_over.Given as goal

abbrev pub invariant-loop-lit : goal.invariant-loop-lit
invariant-loop-lit l = (m : Literal) → has (take l.lit-index l.lits) m ≡ true → (1 ≤ m.variable) × (m.variable < l.size)

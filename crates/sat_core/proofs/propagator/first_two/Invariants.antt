use Rattle.std.proofs.Common.{◌≡◌, true, take}
use Rattle.clause_spec.specs.Clauses.{Literal, same, has}
use Rattle.sat_core.proofs.propagator.first_two.Given as goal

abbrev pub invariant-loop-lit : goal.invariant-loop-lit
invariant-loop-lit l = (m : Literal) → has (take l.lit-index l.clause) m ≡ true → same l.first m ≡ true

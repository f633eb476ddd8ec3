use Rattle.std.proofs.Common.{◌≡◌, true, false, take}
use Rattle.clause_spec.specs.Clauses.{Literal, same, opposite, has}
use Rattle.sat_core.specs.Tables.{true_in}
use Rattle.sat_core.proofs.visit.replacement.Given as goal

abbrev pub invariant-loop-lit : goal.invariant-loop-lit
invariant-loop-lit l = (m : Literal) → has (take l.lit-index l.clause) m ≡ true → same m l.mate ≡ false → true_in l.table (opposite m) ≡ true

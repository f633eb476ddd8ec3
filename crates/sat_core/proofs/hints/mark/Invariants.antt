use Rattle.std.proofs.Common.{◌≡◌, ℕ, true, false, take, get_or}
use Rattle.clause_spec.specs.Clauses.{Literal, has}
use Rattle.sat_core.proofs.hints.mark.Given as goal

abbrev pub invariant-loop-lit : goal.invariant-loop-lit
invariant-loop-lit l = record {
  stays : (v : ℕ) → get_or l.fn.needed v false ≡ true → get_or l.needed v false ≡ true;
  marked : (m : Literal) → has (take l.lit-index l.clause) m ≡ true → get_or l.needed m.variable false ≡ true;
}

use Rattle.std.proofs.Common.{◌≡◌, drop}
use Rattle.clause_spec.specs.Clauses.{has}
use Rattle.sat_core.proofs.learn.is_among.Given as goal

abbrev pub invariant-loop-other : goal.invariant-loop-other
invariant-loop-other l = has l.lits l.lit ≡ has (drop l.other-index l.lits) l.lit

use Rattle.std.proofs.Common.{◌≡◌, ◌++◌, drop}
use Rattle.sat_core.specs.Kept.{others}
use Rattle.sat_core.proofs.minimise.without.Given as goal

abbrev pub invariant-loop-other : goal.invariant-loop-other
invariant-loop-other l = others l.lits l.lit ≡ l.rest.items ++ others (drop l.other-index l.lits) l.lit

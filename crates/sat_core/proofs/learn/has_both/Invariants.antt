use Rattle.std.proofs.Common.{◌≡◌, drop}
use Rattle.clause_spec.specs.Refutation.{is_tautology}
use Rattle.sat_core.proofs.learn.has_both.Given as goal

abbrev pub invariant-loop-i : goal.invariant-loop-i
invariant-loop-i l = is_tautology l.lits ≡ is_tautology (drop l.i l.lits)

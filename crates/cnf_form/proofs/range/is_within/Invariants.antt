use Rattle.std.proofs.Common.{◌≡◌, drop}
use Rattle.cnf_form.specs.Ranges.{is_on_variables}
use Rattle.cnf_form.proofs.range.is_within.Given as goal

abbrev pub invariant-loop-lit : goal.invariant-loop-lit
invariant-loop-lit l = is_on_variables l.variables l.lits ≡ is_on_variables l.variables (drop l.lit-index l.lits)

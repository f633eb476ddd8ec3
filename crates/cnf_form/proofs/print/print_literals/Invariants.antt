use Rattle.std.proofs.Common.{◌≡◌, ◌++◌, drop}
use Rattle.clause_spec.specs.Certificates.{clause_line}
use Rattle.cnf_form.proofs.print.print_literals.Given as goal

abbrev pub invariant-loop-lit : goal.invariant-loop-lit
invariant-loop-lit l = l.out.items ++ clause_line (drop l.lit-index l.lits) ≡ l.fn.out.items ++ clause_line l.lits

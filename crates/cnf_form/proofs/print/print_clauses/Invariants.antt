use Rattle.std.proofs.Common.{◌≡◌, ◌++◌, drop, map}
use Rattle.word_spec.specs.Texts.{lines}
use Rattle.clause_spec.specs.Certificates.{clause_line}
use Rattle.cnf_form.proofs.print.print_clauses.Given as goal

abbrev pub invariant-loop-clause : goal.invariant-loop-clause
invariant-loop-clause l = l.out.items ++ lines (map clause_line (drop l.clause-index l.clauses)) ≡ l.fn.out.items ++ lines (map clause_line l.clauses)

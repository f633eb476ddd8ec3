use Rattle.std.proofs.Common.{◌≡◌, ◌+◌, drop}
use Rattle.clause_spec.specs.Refutation.{refusal, first_refusal}
use Rattle.cnf_form.specs.Views.{cnf_of, lines_of}
use Rattle.refutation_checker.specs.Known.{HaveTaken, known_of}
use Rattle.refutation_checker.proofs.marks.check.Given as goal

abbrev pub invariant-loop-i : goal.invariant-loop-i
invariant-loop-i l = record {
  taken : HaveTaken l.marks (cnf_of l.cnf) (lines_of l.log) l.i;
  same_rest : refusal l.cnf.variables l.cnf.clauses.items (lines_of l.log)
      ≡ first_refusal l.cnf.variables (known_of l.marks) (l.i + 1) (drop l.i (lines_of l.log));
}

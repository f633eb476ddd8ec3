use Rattle.std.proofs.Common.{◌≡◌, drop}
use Rattle.clause_spec.specs.Refutation.{look_of, left_over}
use Rattle.refutation_checker.proofs.Seen.{resume, IsOpenIn}
use Rattle.refutation_checker.proofs.assignment.look_at.Given as goal

abbrev pub invariant-loop-lit : goal.invariant-loop-lit
invariant-loop-lit g l = record {
  same_look : look_of (g.A.Assignment.true_in l.assignment) l.clause
      ≡ resume (g.A.Assignment.true_in l.assignment) l.open (left_over (g.A.Assignment.true_in l.assignment) (drop l.lit-index l.clause));
  of_clause : IsOpenIn l.clause l.open;
}

use Rattle.std.proofs.Common.{◌≡◌, ◌<◌, ◌^◌}
use Rattle.clause_spec.specs.Clauses.{valuation}
use Rattle.term_spec.specs.ClauseForm.{bits_from}
use Rattle.bit_blast.proofs.values.number_at.Given as goal

abbrev pub invariant-loop-i : goal.invariant-loop-i
invariant-loop-i l = record {
  value : l.number ≡ bits_from (valuation l.values) l.first l.i;
  below : l.number < 2 ^ l.i;
}

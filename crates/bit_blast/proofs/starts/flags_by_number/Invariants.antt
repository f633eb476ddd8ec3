use Rattle.std.proofs.Common.{◌≡◌, ℕ, ◌+◌, ◌<◌, length, get_or}
use Rattle.clause_spec.specs.Clauses.{valuation}
use Rattle.term_spec.specs.ClauseForm.{bits_from}
use Rattle.bit_blast.proofs.starts.flags_by_number.Given as goal

abbrev pub invariant-loop-i : goal.invariant-loop-i
invariant-loop-i l = record {
  len : length l.flags.items ≡ l.i;
  each : (f : ℕ) → f < l.i → get_or l.flags.items f 0 ≡ bits_from (valuation l.values) (l.first + f) 1;
}

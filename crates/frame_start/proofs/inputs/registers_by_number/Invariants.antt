use Rattle.std.proofs.Common.{◌≡◌, ℕ, ◌+◌, ◌-◌, ◌*◌, ◌<◌, ◌≤◌, length, get_or}
use Rattle.clause_spec.specs.Clauses.{valuation}
use Rattle.term_spec.specs.ClauseForm.{bits_from}
use Rattle.frame_start.proofs.inputs.registers_by_number.Given as goal

abbrev pub invariant-loop-i : goal.invariant-loop-i
invariant-loop-i l = record {
  len : length l.registers.items ≡ l.first_register + l.i;
  each : (n : ℕ) → l.first_register ≤ n → n < l.first_register + l.i →
      get_or l.registers.items n 0 ≡ bits_from (valuation l.values) (l.first + 32 * (n - l.first_register)) 32;
}

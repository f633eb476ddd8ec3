use Rattle.std.proofs.Common.{◌≡◌, ℕ, ◌<◌, ◌≤◌, length, get_or}
use Rattle.clause_spec.specs.Clauses.{valuation}
use Rattle.bit_blast.specs.Steps.{choice_at}
use Rattle.bit_blast.proofs.steps.choices_by_place.Given as goal

abbrev pub invariant-loop-i : goal.invariant-loop-i
invariant-loop-i l = record {
  len : length l.choices.items ≡ l.i;
  each : (k : ℕ) → k < l.i → get_or l.choices.items k 0 ≡ choice_at l.places (valuation l.values) k;
  few : (k : ℕ) → get_or l.choices.items k 0 ≤ 3;
}

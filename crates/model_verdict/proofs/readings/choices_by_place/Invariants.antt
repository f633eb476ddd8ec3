use Rattle.std.proofs.Common.{◌≡◌, ℕ, ◌<◌, length, get_or, false}
use Rattle.std.specs.Prelude.{if◌then◌else◌}
use Rattle.model_verdict.proofs.readings.choices_by_place.Given as goal

abbrev pub invariant-loop-i : goal.invariant-loop-i
invariant-loop-i l = record {
  len : length l.placed.items ≡ l.i;
  each : (k : ℕ) → k < l.i → get_or l.placed.items k 0
      ≡ (if get_or l.drawn (get_or l.numbers k 0) false then get_or l.choices (get_or l.numbers k 0) 0 else 0);
}

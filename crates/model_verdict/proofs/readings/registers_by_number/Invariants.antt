use Rattle.std.proofs.Common.{◌≡◌, ℕ, ◌+◌, ◌<◌, length, get_or}
use Rattle.model_verdict.proofs.readings.registers_by_number.Given as goal

abbrev pub invariant-loop-i : goal.invariant-loop-i
invariant-loop-i l = record {
  len : length l.numbered.items ≡ l.first + l.i;
  each : (k : ℕ) → k < l.i → get_or l.numbered.items (l.first + k) 0 ≡ get_or l.registers k 0;
}

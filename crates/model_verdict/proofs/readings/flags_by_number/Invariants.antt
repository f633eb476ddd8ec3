use Rattle.std.proofs.Common.{◌≡◌, ℕ, ◌<◌, length, get_or}
use Rattle.word_spec.specs.Words.{bit_at}
use Rattle.model_verdict.proofs.readings.flags_by_number.Given as goal

abbrev pub invariant-loop-flag : goal.invariant-loop-flag
invariant-loop-flag l = record {
  len : length l.numbered.items ≡ l.flag;
  each : (f : ℕ) → f < l.flag → get_or l.numbered.items f 0 ≡ bit_at f l.flags;
}

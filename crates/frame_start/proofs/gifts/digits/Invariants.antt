use Rattle.std.proofs.Common.{◌≡◌, ℕ, ◌<◌, length, get_or, false}
use Rattle.word_spec.specs.Words.{bit}
use Rattle.frame_start.proofs.gifts.digits.Given as goal

abbrev pub invariant-loop-i : goal.invariant-loop-i
invariant-loop-i l = record {
  len : length l.digits.items ≡ l.i;
  each : (f : ℕ) → f < l.i → get_or l.digits.items f 0 ≡ bit (get_or l.bits f false);
}

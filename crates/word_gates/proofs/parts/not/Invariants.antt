use Rattle.std.proofs.Common.{◌≡◌, ℕ, ◌+◌, ◌^◌, Bool, length, take}
use Rattle.gates.specs.Circuits.{Within}
use Rattle.word_gates.specs.Numbers.{number}
use Rattle.word_gates.proofs.parts.not.Given as goal

abbrev pub invariant-loop-i : goal.invariant-loop-i
invariant-loop-i l = record {
  len : length l.bits.items ≡ l.i;
  within : (n : ℕ) → Within n l.a → Within n l.bits.items;
  value : (v : ℕ → Bool) → number v l.bits.items + number v (take l.i l.a) + 1 ≡ 2 ^ l.i;
}

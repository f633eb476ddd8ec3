use Rattle.std.proofs.Common.{◌≡◌, ℕ, ◌^◌, ◌<◌, Bool, take}
use Rattle.gates.specs.Circuits.{Holds}
use Rattle.word_gates.specs.Numbers.{number}
use Rattle.bit_blast.proofs.products.constant_number.Given as goal

abbrev pub invariant-loop-i : goal.invariant-loop-i
invariant-loop-i l = record {
  below : l.number < 2 ^ l.i;
  value : (v : ℕ → Bool) → Holds v l.circuit → number v (take l.i l.word) ≡ l.number;
}

use Rattle.std.proofs.Common.{◌≡◌, ◌==◌, ℕ, ◌-◌, ◌<◌, ◌^◌, ◌&&◌, Bool, drop}
use Rattle.gates.specs.Circuits.{Within, bit_value, variable_of}
use Rattle.gates.specs.Pushes.{satisfied, AreOver}
use Rattle.word_gates.specs.Numbers.{number}
use Rattle.bit_blast.proofs.TiedBits.{asks}
use Rattle.bit_blast.proofs.ties.tie_byte.Given as goal

abbrev pub invariant-loop-i : goal.invariant-loop-i
invariant-loop-i l = record {
  value : (v : ℕ → Bool) →
      (satisfied v l.ties.items && asks (bit_value v l.fn.condition) (number v (drop l.i l.a) == l.rest))
      ≡ (satisfied v l.fn.ties.items && asks (bit_value v l.fn.condition) (number v l.a == l.byte));
  below : l.rest < 2 ^ (8 - l.i);
  over : (n : ℕ) → variable_of l.fn.condition < n → Within n l.a → AreOver n l.fn.ties.items → AreOver n l.ties.items;
}

use Rattle.std.proofs.Common.{◌≡◌, ℕ, ◌+◌, ◌*◌, ◌^◌, Bool, drop}
use Rattle.std.specs.Prelude.{bit_xor}
use Rattle.gates.specs.Circuits.{Holds}
use Rattle.word_gates.specs.Numbers.{number, IsWord}
use Rattle.word_gates.proofs.bitwise.xor.Given as goal

abbrev pub invariant-loop-i : goal.invariant-loop-i
invariant-loop-i l = record {
  made : IsWord l.fn.circuit l.circuit l.i l.i l.bits.items;
  value : (v : ℕ → Bool) → Holds v l.circuit → number v l.bits.items + 2 ^ l.i * bit_xor (number v (drop l.i l.a)) (number v (drop l.i l.b))
      ≡ bit_xor (number v l.a) (number v l.b);
}

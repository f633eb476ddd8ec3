use Rattle.std.proofs.Common.{◌≡◌, ℕ, Bool, cond, take}
use Rattle.gates.specs.Circuits.{Holds, bit_value}
use Rattle.word_gates.specs.Numbers.{number, IsWord}
use Rattle.word_gates.proofs.bitwise.masked.Given as goal

abbrev pub invariant-loop-i : goal.invariant-loop-i
invariant-loop-i l = record {
  made : IsWord l.fn.circuit l.circuit l.i l.i l.bits.items;
  value : (v : ℕ → Bool) → Holds v l.circuit → number v l.bits.items ≡ cond (bit_value v l.c) (number v (take l.i l.a)) 0;
}

use Rattle.std.proofs.Common.{ℕ, ◌+◌, ◌-◌, ◌*◌, Bool, length, drop}
use Rattle.gates.specs.Circuits.{Holds}
use Rattle.word_gates.specs.Numbers.{number, IsWord, IsQuotient}
use Rattle.word_gates.proofs.division.divide.Given as goal

abbrev pub invariant-loop-i : goal.invariant-loop-i
invariant-loop-i l = record {
  quotient : IsWord l.fn.circuit l.circuit (l.i * (3 * length l.a + 2)) l.i l.quotient.items;
  remainder : IsWord l.fn.circuit l.circuit (l.i * (3 * length l.a + 2)) (length l.a) l.remainder.items;
  value : (v : ℕ → Bool) → Holds v l.circuit → IsQuotient (number v (drop (length l.a - l.i) l.a)) (number v l.b) l.i (number v l.quotient.items)
      (number v l.remainder.items);
}

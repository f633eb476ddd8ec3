use Rattle.std.proofs.Common.{◌≡◌, ℕ, ◌+◌, ◌*◌, ◌^◌, ◌<◌, Bool, take}
use Rattle.gates.specs.Circuits.{next, Holds, variable_of}
use Rattle.word_gates.specs.Numbers.{number, digit, IsWord}
use Rattle.word_gates.proofs.arithmetic.sum_with.Given as goal

abbrev pub invariant-loop-i : goal.invariant-loop-i
invariant-loop-i l = record {
  made : IsWord l.fn.circuit l.circuit (2 * l.i) l.i l.bits.items;
  carry_within : variable_of l.carry < next l.circuit;
  value : (v : ℕ → Bool) → Holds v l.circuit → number v l.bits.items + 2 ^ l.i * digit v l.carry
      ≡ number v (take l.i l.a) + number v (take l.i l.b) + digit v l.fn.carry;
}

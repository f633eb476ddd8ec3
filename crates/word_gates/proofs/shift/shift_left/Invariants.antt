use Rattle.std.proofs.Common.{◌≡◌, ℕ, ◌*◌, ◌%◌, ◌^◌, Bool, length, take}
use Rattle.gates.specs.Circuits.{Holds}
use Rattle.word_gates.specs.Numbers.{number, IsWord}
use Rattle.word_gates.proofs.shift.shift_left.Given as goal

abbrev pub invariant-loop-j : goal.invariant-loop-j
invariant-loop-j l = record {
  made : IsWord l.fn.circuit l.circuit (l.j * length l.a) (length l.a) l.word.items;
  value : (v : ℕ → Bool) → Holds v l.circuit → number v l.word.items ≡ (number v l.a * 2 ^ number v (take l.j l.s)) % 2 ^ length l.a;
}

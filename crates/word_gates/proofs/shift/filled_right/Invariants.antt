use Rattle.std.proofs.Common.{◌≡◌, ℕ, ◌*◌, ◌/◌, ◌^◌, Bool, length, take}
use Rattle.gates.specs.Circuits.{Holds, bit_value}
use Rattle.word_gates.specs.Numbers.{number, IsWord, turned}
use Rattle.word_gates.proofs.shift.filled_right.Given as goal

abbrev pub invariant-loop-j : goal.invariant-loop-j
invariant-loop-j l = record {
  made : IsWord l.fn.circuit l.circuit (l.j * length l.a) (length l.a) l.word.items;
  value : (v : ℕ → Bool) → Holds v l.circuit → turned (length l.a) (bit_value v l.fill) (number v l.word.items)
      ≡ turned (length l.a) (bit_value v l.fill) (number v l.a) / 2 ^ number v (take l.j l.s);
}

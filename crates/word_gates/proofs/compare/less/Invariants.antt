use Rattle.std.proofs.Common.{◌≡◌, nat_lt, ℕ, Bool, take}
use Rattle.gates.specs.Circuits.{Holds, IsBit, bit_value}
use Rattle.word_gates.specs.Numbers.{number}
use Rattle.word_gates.proofs.compare.less.Given as goal

abbrev pub invariant-loop-i : goal.invariant-loop-i
invariant-loop-i l = record {
  made : IsBit l.fn.circuit l.circuit l.i l.less;
  value : (v : ℕ → Bool) → Holds v l.circuit → bit_value v l.less ≡ nat_lt (number v (take l.i l.a)) (number v (take l.i l.b));
}

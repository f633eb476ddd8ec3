use Rattle.std.proofs.Common.{◌≡◌, ◌==◌, ℕ, ◌-◌, Bool, drop}
use Rattle.gates.specs.Circuits.{Holds, IsBit, bit_value}
use Rattle.word_gates.specs.Numbers.{number}
use Rattle.word_gates.proofs.compare.equal.Given as goal

abbrev pub invariant-loop-i : goal.invariant-loop-i
invariant-loop-i l = record {
  made : IsBit l.fn.circuit l.circuit l.i l.same;
  value : (v : ℕ → Bool) → Holds v l.circuit → bit_value v l.same ≡ (number v (drop (l.n - l.i) l.a) == number v (drop (l.n - l.i) l.b));
}

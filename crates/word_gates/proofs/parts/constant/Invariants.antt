use Rattle.std.proofs.Common.{◌≡◌, ℕ, ◌+◌, ◌*◌, ◌^◌, Bool}
use Rattle.gates.specs.Circuits.{Holds}
use Rattle.word_gates.specs.Numbers.{number, IsWord}
use Rattle.word_gates.proofs.parts.constant.Given as goal

abbrev pub invariant-loop-i : goal.invariant-loop-i
invariant-loop-i l = record {
  made : IsWord l.circuit l.circuit 0 l._i l.bits.items;
  value : (v : ℕ → Bool) → Holds v l.circuit → number v l.bits.items + 2 ^ l._i * l.rest ≡ l.value;
}

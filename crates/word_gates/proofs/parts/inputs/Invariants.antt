use Rattle.std.proofs.Common.{◌≡◌, ℕ, Bool}
use Rattle.word_gates.specs.Numbers.{number, IsWord, input_number}
use Rattle.word_gates.proofs.parts.inputs.Given as goal

abbrev pub invariant-loop-i : goal.invariant-loop-i
invariant-loop-i l = record {
  made : IsWord l.circuit l.circuit 0 l.i l.bits.items;
  value : (v : ℕ → Bool) → number v l.bits.items ≡ input_number v l.first l.i;
}

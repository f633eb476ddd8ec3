use Rattle.std.proofs.Common.{◌≡◌, ℕ, Bool, List, length}
use Rattle.clause_spec.specs.Clauses.{valuation}
use Rattle.gates.specs.Circuits.{Within}
use Rattle.word_gates.specs.Numbers.{input_number, number}
use Rattle.bit_blast.specs.Places.{truths}
use Rattle.pair_blast.proofs.linked.put.Given as goal

abbrev pub invariant-loop-i : goal.invariant-loop-i
invariant-loop-i l = record {
  len : length l.bits ≡ length l.fn.bits;
  within : (n : ℕ) → Within n l.fn.bits → Within n l.word → Within n l.bits;
  value : (v : ℕ → Bool) (ts : List Bool) → truths v l.fn.bits ≡ ts → number v l.word ≡ input_number (valuation ts) l.first (length l.word) →
      truths v l.bits ≡ ts;
}

use Rattle.std.proofs.Common.{◌≡◌, ℕ, ◌+◌, ◌-◌, ◌*◌, ◌^◌, ◌≤◌, Bool, take, get_or}
use Rattle.word_gates.specs.Numbers.{number, digit}
use Rattle.word_gates.proofs.Words.{no_bit}
use Rattle.bit_blast.proofs.products.signed_bits.Given as goal

abbrev pub invariant-loop-i : goal.invariant-loop-i
invariant-loop-i l = record {
  some : 1 ≤ l.bits;
  within : l.bits ≤ l.i;
  top : get_or l.word (l.i - 1) no_bit ≡ get_or l.word (l.bits - 1) no_bit;
  value : (v : ℕ → Bool) → number v (take l.i l.word) + 2 ^ l.bits * digit v (get_or l.word (l.bits - 1) no_bit)
      ≡ number v (take l.bits l.word) + 2 ^ l.i * digit v (get_or l.word (l.bits - 1) no_bit);
}

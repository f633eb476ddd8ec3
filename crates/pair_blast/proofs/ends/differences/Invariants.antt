use Rattle.std.proofs.Common.{◌≡◌, ℕ, ◌||◌, Bool, not, take, drop}
use Rattle.gates.specs.Circuits.{next, Grows, Holds, Within, any_of}
use Rattle.pair_spec.specs.PairTerms.{same_words}
use Rattle.bit_blast.specs.BitWords.{shapes}
use Rattle.pair_blast.specs.PairWords.{bits_in, words_under}
use Rattle.pair_blast.proofs.ends.differences.Given as goal

abbrev pub invariant-loop-i : goal.invariant-loop-i
invariant-loop-i l = record {
  grows : Grows l.fn.circuit l.circuit (bits_in (shapes l.first) (take l.i l.exits));
  within : Within (next l.circuit) l.bits.items;
  value : (v : ℕ → Bool) → Holds v l.circuit →
      (any_of v l.bits.items || not (same_words (words_under v l.first (drop l.i l.exits)) (words_under v l.second (drop l.i l.others)))) ≡
      not (same_words (words_under v l.first l.exits) (words_under v l.second l.others));
}

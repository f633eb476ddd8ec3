use Rattle.std.proofs.Common.{◌≡◌, ℕ, Bool, true, length}
use Rattle.term_spec.specs.Terms.{TermReading}
use Rattle.gates.specs.Circuits.{Within}
use Rattle.pair_spec.specs.PairTerms.{same_words}
use Rattle.bit_blast.specs.BitWords.{AreWithin}
use Rattle.bit_blast.specs.Places.{IsReadingAt, seen, truths}
use Rattle.pair_blast.specs.PairWords.{words_read, words_under}
use Rattle.pair_blast.proofs.linked.stand_in_all.Given as goal

abbrev pub invariant-loop-i : goal.invariant-loop-i
invariant-loop-i l = record {
  len : length l.bits ≡ length l.fn.bits;
  within : (n : ℕ) → Within n l.fn.bits → AreWithin n l.words → Within n l.bits;
  value : (v : ℕ → Bool) (x : TermReading) → IsReadingAt l.places (seen l.fn.bits v) x →
      same_words (words_under v l.words l.entries) (words_read x l.dag l.others) ≡ true → truths v l.bits ≡ truths v l.fn.bits;
}

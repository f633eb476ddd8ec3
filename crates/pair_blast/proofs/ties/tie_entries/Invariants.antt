use Rattle.std.proofs.Common.{◌≡◌, ℕ, ◌&&◌, Bool, drop}
use Rattle.gates.specs.Pushes.{satisfied, AreOver}
use Rattle.pair_spec.specs.PairTerms.{same_words}
use Rattle.bit_blast.specs.BitWords.{AreWithin}
use Rattle.pair_blast.specs.PairWords.{words_under}
use Rattle.pair_blast.proofs.ties.tie_entries.Given as goal

abbrev pub invariant-loop-i : goal.invariant-loop-i
invariant-loop-i l = record {
  value : (v : ℕ → Bool) →
      (satisfied v l.ties.items && same_words (words_under v l.first (drop l.i l.entries)) (words_under v l.second (drop l.i l.others))) ≡
      (satisfied v l.fn.ties.items && same_words (words_under v l.first l.entries) (words_under v l.second l.others));
  over : (n : ℕ) → AreWithin n l.first → AreWithin n l.second → AreOver n l.fn.ties.items → AreOver n l.ties.items;
}

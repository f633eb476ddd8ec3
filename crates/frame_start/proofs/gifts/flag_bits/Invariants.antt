use Rattle.std.proofs.Common.{◌≡◌, ℕ, ◌<◌, length, get_or, false}
use Rattle.clause_spec.specs.Clauses.{valuation}
use Rattle.word_spec.specs.Words.{bit}
use Rattle.term_spec.specs.Terms.{TermReading}
use Rattle.bit_blast.specs.Places.{IsReadingAt}
use Rattle.frame_start.specs.Changes.{changed_flags, flag_among}
use Rattle.frame_start.proofs.gifts.flag_bits.Given as goal

abbrev pub invariant-loop-number : goal.invariant-loop-number
invariant-loop-number l = record {
  len : length l.bits.items ≡ l.number;
  each : (x : TermReading) → IsReadingAt l.places (valuation l.values) x → (f : ℕ) → f < l.number →
      bit (get_or l.bits.items f false) ≡ flag_among x l.part (changed_flags l.changed) f;
}

use Rattle.std.proofs.Common.{◌≡◌, ℕ, ◌<◌, length, get_or, true}
use Rattle.clause_spec.specs.Clauses.{valuation}
use Rattle.term_spec.specs.Terms.{TermReading}
use Rattle.bit_blast.specs.Places.{IsReadingAt}
use Rattle.frame_start.specs.Changes.{changed_registers, is_given}
use Rattle.frame_start.proofs.gifts.registers_by_number.Given as goal

abbrev pub invariant-loop-number : goal.invariant-loop-number
invariant-loop-number l = record {
  len : length l.registers.items ≡ l.number;
  each : (x : TermReading) → IsReadingAt l.places (valuation l.values) x → (n : ℕ) → n < l.number →
      is_given l.places (changed_registers l.changed) n ≡ true → get_or l.registers.items n 0 ≡ x.regs l.part n;
}

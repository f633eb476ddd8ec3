use Rattle.std.proofs.Common.{◌≡◌, map}
use Rattle.std.specs.Prelude.{filter}
use Rattle.word_spec.specs.RowFiles.{from_to}
use Rattle.clause_spec.specs.Clauses.{valuation}
use Rattle.term_spec.specs.Terms.{TermReading}
use Rattle.bit_blast.specs.Places.{IsReadingAt}
use Rattle.frame_start.specs.Changes.{changed_registers, is_given}
use Rattle.frame_start.proofs.parts.given_registers.Given as goal

abbrev pub invariant-loop-number : goal.invariant-loop-number
invariant-loop-number l = (x : TermReading) → IsReadingAt l.places (valuation l.values) x →
    l.registers.items ≡ map (x.regs l.part) (filter (is_given l.places (changed_registers l.changed)) (from_to 0 l.number))

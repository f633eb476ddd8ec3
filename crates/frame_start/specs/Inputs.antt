-- Data that have the inputs of a part of a reading.
use Rattle.std.specs.Prelude.{ℕ, ◌≡◌, ◌≤◌, ◌<◌, ◌+◌, ◌*◌, Bool, List, Option, Some, None, slice_index, slice_index_or}
use Rattle.clause_spec.specs.Clauses.{valuation}
use Rattle.term_spec.specs.Terms.{InRange, TermReading}
use Rattle.term_spec.specs.ClauseForm.{bits_from}
use Rattle.term_dag.specs.declared.values.Reading.{Reading}
use Rattle.term_dag.specs.Readings.{part_in, reading_of}
use Rattle.bit_blast.specs.declared.input_places.InputPlaces.{InputPlaces}
use Rattle.bit_blast.specs.Places.{HasPart, IsRead, IsReadingAt, reads_of}

-- the number of a part's base read at the address of a number
abbrev pub read_of : InputPlaces → (part address : ℕ) → Option ℕ
read_of p part j = slice_index_or (reads_of p part) j None

-- the byte of a base read by its number
abbrev pub byte_by : InputPlaces → (ℕ → Bool) → Option ℕ → ℕ
byte_by p v None = 0
byte_by p v (Some k) = bits_from v (p.first_byte + 8 * k) 8

-- the data have the registers, flags and bytes of base reads that a part of the reading has
pub record HasPartAt (p : InputPlaces) (x : TermReading) (part addresses : ℕ) (r : Reading) : Type 0 where
  pub regs : (n : ℕ) → HasPart p part → p.first_register ≤ n → n < p.first_register + p.registers → (reading_of r).regs 0 n ≡ x.regs part n
  pub flags : (f : ℕ) → HasPart p part → f < p.flags → (reading_of r).flags 0 f ≡ x.flags part f
  pub base : (j k : ℕ) → j < addresses → IsRead p part j k → slice_index r.base.items j ≡ x.base part j

-- so of each reading that values give
abbrev pub HasInputs : InputPlaces → (values : List Bool) → (part addresses : ℕ) → Reading → Type 0
HasInputs p values part n r = (x : TermReading) → InRange x → IsReadingAt p (valuation values) x → HasPartAt p x part n r

-- what terms are read under where the parts are these data
abbrev pub both_reading : Reading → List Reading → TermReading
both_reading first others = record {
  regs = λ p n. (reading_of (part_in first others p)).regs 0 n;
  flags = λ p f. (reading_of (part_in first others p)).flags 0 f;
  mem = λ p a. (reading_of (part_in first others p)).mem 0 a;
  choice = (reading_of first).choice;
  base = λ p j. (reading_of (part_in first others p)).base 0 j;
}

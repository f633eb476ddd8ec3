-- The reading that stands for data, and the words of terms under it.
use Rattle.std.specs.Prelude.{◌≡◌, ℕ, zero, suc, ◌%◌, ◌^◌, ◌<◌, bit_xor, List, [], ◌∷◌, length, slice_index, slice_index_or}
use Rattle.word_spec.specs.Memory.{memory_of}
use Rattle.term_spec.specs.Terms.{TermReading, TermNode, term_word}
use Rattle.term_dag.specs.declared.values.Parts.{Parts}
use Rattle.term_dag.specs.declared.values.Reading.{Reading}

-- What the data stand for, in each part the same: what is not listed is 0, and of each number those bits count that a reading has. A byte of the memory is the listed one with the
-- bits of the fill turned, so where none is listed it is the fill.
abbrev pub reading_of : Reading → TermReading
reading_of r = record {
  regs = λ p n. slice_index r.registers.items n % 2 ^ 32;
  flags = λ p f. slice_index r.flags.items f % 2;
  mem = λ p a. bit_xor (r.fill % 256) (memory_of r.memory.entries a % 256);
  choice = λ i. slice_index r.choices.items i % 4;
  base = λ p j. slice_index r.base.items j % 256;
}

-- what a part is read as: as the first where it is not listed
abbrev pub listed_part : Reading → List Reading → ℕ → Reading
listed_part first others zero = first
listed_part first others (suc p) = slice_index_or others p first

abbrev pub part_in : Reading → List Reading → ℕ → Reading
part_in first [] p = first
part_in first (r ∷ rest) p = listed_part first (r ∷ rest) p

-- what data stand for whose parts differ
abbrev pub reading_of_parts : Parts → TermReading
reading_of_parts x = record {
  regs = λ p n. (reading_of (part_in x.first.now x.others.now p)).regs 0 n;
  flags = λ p f. (reading_of (part_in x.first.now x.others.now p)).flags 0 f;
  mem = λ p a. (reading_of (part_in x.first.now x.others.now p)).mem 0 a;
  choice = (reading_of x.first.now).choice;
  base = λ p j. (reading_of (part_in x.first.now x.others.now p)).base 0 j;
}

-- the words are those of the terms of a list
pub record AreWords (x : TermReading) (nodes : List TermNode) (ws : List ℕ) : Type 0 where
  pub count : length ws ≡ length nodes
  pub each : (t : ℕ) → t < length nodes → slice_index ws t ≡ term_word x nodes t

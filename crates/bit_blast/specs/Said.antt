-- What is said of base reads, under a valuation, where bits stand for the inputs.
use Rattle.std.specs.Prelude.{ℕ, ◌==◌, ◌+◌, ◌*◌, Bool, not, ◌||◌, List, None, slice_index_or, unwrap_or}
use Rattle.std.specs.Global.{Vec}
use Rattle.term_spec.specs.Terms.{HasWidth, value_at}
use Rattle.gates.specs.declared.bit.Bit.{Bit}
use Rattle.word_gates.specs.Numbers.{input_number}
use Rattle.mem_cells.specs.declared.cells.Agreement.{Agreement}
use Rattle.mem_cells.specs.declared.cells.AskedByte.{AskedByte}
use Rattle.bit_blast.specs.declared.input_places.InputPlaces.{InputPlaces}
use Rattle.bit_blast.specs.Places.{HasRead, reads_of, seen}
use Rattle.bit_blast.specs.BitWords.{shapes, values_of}

-- the byte of a part's read at an address
abbrev pub byte_at : InputPlaces → List Bit → (ℕ → Bool) → (part address : ℕ) → ℕ
byte_at p bits v part j = input_number (seen bits v) (p.first_byte + 8 * unwrap_or (slice_index_or (reads_of p part) j None) 0) 8

-- a condition is 1
abbrev pub is_met : List (Vec Bit) → (ℕ → Bool) → (term : ℕ) → Bool
is_met ws v t = (value_at (values_of v ws) t).word == 1

-- the reads are equal where the condition is 1
abbrev pub agrees_at : InputPlaces → List Bit → List (Vec Bit) → (ℕ → Bool) → Agreement → Bool
agrees_at p bits ws v a = not (is_met ws v a.condition.0) || (byte_at p bits v a.part a.read == byte_at p bits v a.part a.other)

-- the read is the byte where the condition is 1
abbrev pub asked_at : InputPlaces → List Bit → List (Vec Bit) → (ℕ → Bool) → AskedByte → Bool
asked_at p bits ws v a = not (is_met ws v a.condition.0) || (byte_at p bits v a.part a.read == a.byte)

-- the condition is a bit, and the reads are there
pub record CanAgree (p : InputPlaces) (ws : List (Vec Bit)) (a : Agreement) : Type 0 where
  pub condition : HasWidth (shapes ws) 1 a.condition.0
  pub read : HasRead p a.part a.read
  pub other : HasRead p a.part a.other

pub record CanBeAsked (p : InputPlaces) (ws : List (Vec Bit)) (a : AskedByte) : Type 0 where
  pub condition : HasWidth (shapes ws) 1 a.condition.0
  pub read : HasRead p a.part a.read

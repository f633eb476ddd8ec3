-- Bytes that values give to base reads, and those that parts have of the file.
use Rattle.std.specs.Prelude.{ℕ, ◌≡◌, ◌≤◌, ◌<◌, ◌+◌, ◌*◌, ◌^◌, ◌↔◌, Bool, List, [], None, Contains, filter, length, map, slice_index}
use Rattle.word_spec.specs.Memory.{byte_in}
use Rattle.word_spec.specs.RowFiles.{from_to}
use Rattle.word_spec.specs.State.{Written}
use Rattle.machine_spec.specs.StateText.{AreRising}
use Rattle.clause_spec.specs.Clauses.{valuation}
use Rattle.frame_spec.specs.FrameWalk.{UnrolledProgram}
use Rattle.term_spec.specs.Terms.{TermReading}
use Rattle.frame_terms.specs.FrameCells.{Cells, IsRead, read_address}
use Rattle.frame_terms.specs.FrameStarts.{HasValues, part_byte, IsWrittenPart, IsBroken}
use Rattle.question_form.specs.FrameQuestions.{heads_of_question, is_of_heads}
use Rattle.mem_cells.specs.declared.cells.Celled.{Celled}
use Rattle.mem_cells.specs.FrameViews.{frame_cells_of, frame_of_cells}
use Rattle.term_spec.specs.ClauseForm.{bits_from}
use Rattle.bit_blast.specs.declared.input_places.InputPlaces.{InputPlaces}
use Rattle.word_spec.specs.Words.{bit_at}
use Rattle.bit_blast.specs.Places.{first_of, IsReadingAt}
use Rattle.frame_start.specs.Changes.{flag_among, is_given}
use Rattle.bit_blast.specs.Broken.{is_other}
use Rattle.bit_blast.specs.ReadBytes.{is_free}

-- the part has another byte of the file at the address of a read, which stands before its byte
abbrev pub differs : UnrolledProgram → (part : ℕ) → ℕ × ℕ → Bool
differs u part x = is_other (part_byte u part x.0) x.1

-- the part has none there
abbrev pub is_free_at : UnrolledProgram → (part : ℕ) → ℕ × ℕ → Bool
is_free_at u part x = is_free (part_byte u part x.0)

-- what holds of each reading that has values of the inputs of cells
abbrev pub UnderValues : Celled → (values : List Bool) → (TermReading → Type 0) → Type 0
UnderValues c values Claim =
    (x : TermReading) → HasValues (frame_of_cells c) (heads_of_question c.question.now) (frame_cells_of c) (valuation values) x → Claim x

-- The addresses are those of the bytes of the file that a base read has otherwise under the values, rising and each once.
pub record AreBroken (c : Celled) (values : List Bool) (at : List ℕ) : Type 0 where
  pub rise : (i j : ℕ) → i < j → j < length at → slice_index at i < slice_index at j
  pub broken : UnderValues c values (λ x. (a : ℕ) → Contains at a ↔ IsBroken (frame_of_cells c) (is_of_heads c.question.now) (frame_cells_of c) x a)

-- base reads of one address of a part have one byte
abbrev pub AreOne : (of_head : Bool) → Cells → TermReading → Type 0
AreOne of_head c x =
    (p i j : ℕ) → IsWrittenPart of_head p → IsRead c p i → IsRead c p j → read_address c x i ≡ read_address c x j → x.base p i ≡ x.base p j

-- some reading that has values of the inputs is so
abbrev pub ForSomeValues : Celled → (values : List Bool) → (TermReading → Type 0) → Type 0
ForSomeValues c values Claim =
    (x : TermReading) × HasValues (frame_of_cells c) (heads_of_question c.question.now) (frame_cells_of c) (valuation values) x × Claim x

-- base reads of one address of a part have one byte, and none has another than its part has of the file
pub record AreWhole (c : Celled) (x : TermReading) : Type 0 where
  pub one : AreOne (is_of_heads c.question.now) (frame_cells_of c) x
  pub unbroken : (a : ℕ) → ¬ IsBroken (frame_of_cells c) (is_of_heads c.question.now) (frame_cells_of c) x a

-- The bytes are those of a part's reads that are written: not 0, where it has none of the file, in rising order. What is not listed is 0.
pub record AreWrittenBytes (u : UnrolledProgram) (part : ℕ) (reads bytes : List (ℕ × ℕ)) : Type 0 where
  pub rise : AreRising bytes
  pub only : (z : ℕ × ℕ) → Contains bytes z → Contains reads z × (part_byte u part z.0 ≡ None) × (1 ≤ z.1)
  pub all : (z : ℕ × ℕ) → Contains reads z → part_byte u part z.0 ≡ None → byte_in bytes z.0 ≡ z.1

-- registers and flags of a part by a valuation, with these bytes and without choices
pub record IsWrittenOf (p : InputPlaces) (v : ℕ → Bool) (part : ℕ) (bytes : List (ℕ × ℕ)) (w : Written) : Type 0 where
  pub regs : w.regs ≡ map (λ q. bits_from v (first_of p part + 32 * q) 32) (from_to 0 p.registers)
  pub flags : w.flags ≡ bits_from v (first_of p part + p.first_flag) p.flags
  pub fit : w.flags < 2 ^ p.flags
  pub bytes_are : w.bytes ≡ bytes
  pub choices : w.choices ≡ []

-- a gift by a valuation: these registers and flags of a part, with these bytes
pub record IsWrittenGift (p : InputPlaces) (v : ℕ → Bool) (part : ℕ) (registers flags : List ℕ) (bytes : List (ℕ × ℕ)) (w : Written) : Type 0 where
  pub regs : (x : TermReading) → IsReadingAt p v x → w.regs ≡ map (x.regs part) (filter (is_given p registers) (from_to 0 32))
  pub flags_are : (x : TermReading) → IsReadingAt p v x → (f : ℕ) → f < p.flags → bit_at f w.flags ≡ flag_among x part flags f
  pub fit : w.flags < 2 ^ p.flags
  pub bytes_are : w.bytes ≡ bytes
  pub choices : w.choices ≡ []

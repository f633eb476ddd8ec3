-- The base reads of a part with their bytes.
use Rattle.std.specs.Prelude.{ℕ, suc, ◌≡◌, ◌==◌, ◌<◌, ◌^◌, Bool, true, false, List, [], Contains, filter, length, map, slice_index, slice_index_or, if◌then◌else◌}
use Rattle.std.specs.Global.{Vec}
use Rattle.frame_spec.specs.FrameWalk.{Gift, UnrolledProgram}
use Rattle.frame_terms.specs.PassiveFrames.{gift_part, IsGiftAt}
use Rattle.mem_cells.specs.FrameViews.{frame_of_cells}
use Rattle.term_spec.specs.Terms.{TermReading}
use Rattle.frame_terms.specs.FrameCells.{Cells, IsRead, read_address}
use Rattle.term_dag.specs.declared.nodes.Term.{Term}
use Rattle.term_dag.specs.declared.values.Reading.{Reading}
use Rattle.term_dag.specs.Readings.{AreWords}
use Rattle.question_form.specs.FrameQuestions.{is_of_heads}
use Rattle.mem_cells.specs.declared.cells.BaseRead.{BaseRead}
use Rattle.mem_cells.specs.declared.cells.Celled.{Celled}
use Rattle.bit_blast.specs.ReadBytes.{address_word}
use Rattle.frame_start.specs.Inputs.{both_reading}
use Rattle.frame_start.specs.declared.reads.Reads.{Reads}

-- the read is of a part
abbrev pub is_of : (part : ℕ) → BaseRead → Bool
is_of part b = b.part == part

-- its address and its byte, by the words of terms
abbrev pub pair_at : List Term → (words bytes : List ℕ) → BaseRead → ℕ × ℕ
pair_at addresses words bytes b = (address_word addresses words b.address, slice_index bytes b.address)

-- the addresses and the bytes are those of the base reads of a part under a reading
pub record AreReadsOf (c : Cells) (x : TermReading) (part : ℕ) (xs : List (ℕ × ℕ)) : Type 0 where
  pub only : (z : ℕ × ℕ) → Contains xs z → (j : ℕ) × IsRead c part j × (read_address c x j ≡ z.0) × (x.base part j ≡ z.1)
  pub all : (j : ℕ) → IsRead c part j → Contains xs (read_address c x j, x.base part j)

-- the reads of the gift of a place
abbrev pub gift_reads : List (Vec (ℕ × ℕ)) → (place : ℕ) → List (ℕ × ℕ)
gift_reads lists i = slice_index_or (map (λ v. v.items) lists) i []

-- those of the entry's part, of the head's, where the question speaks of head states, and of gifts
pub record HaveReads (u : UnrolledProgram) (c : Cells) (of_head : Bool) (x : TermReading) (r : Reads) : Type 0 where
  pub entry : AreReadsOf c x 0 r.entry.items
  pub head : of_head ≡ true → AreReadsOf c x 1 r.head.items
  pub none : of_head ≡ false → r.head.items ≡ []
  pub gifts : (i : ℕ) (g : Gift) → IsGiftAt u i g → AreReadsOf c x (gift_part i) (gift_reads r.gifts.items i)

-- data of as many parts as there are besides the entry's, each with a byte for each address where a contract step is made
pub record AreLong (c : Celled) (others : List Reading) : Type 0 where
  pub count : length others ≡ suc (length c.question.now.passive.now.unrolled.now.points.items)
  pub head : (d : Reading) → length (slice_index_or others 0 d).base.items ≡ length c.addresses.items
  pub gifts : (i : ℕ) (g : Gift) (d : Reading) → IsGiftAt (frame_of_cells c) i g → length (slice_index_or others (suc i) d).base.items
      ≡ length c.addresses.items

-- base reads stand at addresses that have words of 32 bits
pub record AreReadable (c : Celled) (words : List ℕ) : Type 0 where
  pub places : (b : BaseRead) → Contains c.reads.items b → b.address < length c.addresses.items
  pub within : (j : ℕ) (d : Term) → j < length c.addresses.items → (slice_index_or c.addresses.items j d).0 < length words
  pub small : (j : ℕ) → j < length c.addresses.items → address_word c.addresses.items words j < 2 ^ 32

-- the base reads of the gift of a place by data, and those of the first places
abbrev pub AreGiftReads : Celled → (words : List ℕ) → (others : List Reading) → (place : ℕ) → List (ℕ × ℕ) → Type 0
AreGiftReads c words others i xs =
    (g : Gift) (d : Reading) → IsGiftAt (frame_of_cells c) i g →
    xs ≡ map (pair_at c.addresses.items words (slice_index_or others (suc i) d).base.items) (filter (is_of (gift_part i)) c.reads.items)

pub record AreGiftsReads (c : Celled) (words : List ℕ) (others : List Reading) (n : ℕ) (lists : List (Vec (ℕ × ℕ))) : Type 0 where
  pub count : length lists ≡ n
  pub each : (i : ℕ) → i < n → AreGiftReads c words others i (gift_reads lists i)

-- The base reads are those of the parts, with their bytes in data, by the words of the terms of cells under these.
pub record AreReadUnder (c : Celled) (entry : Reading) (others : List Reading) (r : Reads) : Type 0 where
  pub words : List ℕ
  pub are : AreWords (both_reading entry others) c.dag words
  pub at_entry : r.entry.items ≡ map (pair_at c.addresses.items words entry.base.items) (filter (is_of 0) c.reads.items)
  pub at_head : (d : Reading) → r.head.items ≡ (if is_of_heads c.question.now
      then map (pair_at c.addresses.items words (slice_index_or others 0 d).base.items) (filter (is_of 1) c.reads.items) else [])
  pub at_gifts : AreGiftsReads c words others (length c.question.now.passive.now.unrolled.now.points.items) r.gifts.items

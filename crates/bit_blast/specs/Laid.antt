-- The places of the inputs of cells.
use Rattle.std.specs.Prelude.{ℕ, zero, suc, ◌≡◌, ◌<◌, ◌+◌, ◌*◌, nat_eq, Bool, false, List, [], ◌∷◌, ◌++◌, Option, Some, None, Contains, filter, length, map, slice_get, slice_index_or, if◌then◌else◌}
use Rattle.std.specs.List.{list_any}
use Rattle.word_spec.specs.RowFiles.{from_to}
use Rattle.walk_spec.specs.Unrolled.{UnrolledProgram, point_at}
use Rattle.term_spec.specs.Cells.{Cells}
use Rattle.term_spec.specs.ClauseForm.{drawn_below}
use Rattle.frame_spec.specs.FrameWalk as frames
use Rattle.frame_spec.specs.FrameWalk.{Action, Executes, Arrives, StepsOver}
use Rattle.frame_terms.specs.FrameCells as frame_cells
use Rattle.frame_terms.specs.FrameCells.{BaseRead}
use Rattle.frame_terms.specs.FrameClauseForm.{drawn_places}
use Rattle.frame_terms.specs.FrameStarts.{gift_registers as given_registers}
use Rattle.frame_terms.specs.HeadlessTerms.{as_read}
use Rattle.notes_value.specs.declared.notes.Contract.{Contract}
use Rattle.question_form.specs.declared.unrolled.Deed.{Deed}
use Rattle.question_form.specs.declared.unrolled.Deed.TheVariants as deeds
use Rattle.question_form.specs.declared.unrolled.Point.{Point}
use Rattle.question_form.specs.declared.unrolled.Unrolled.{Unrolled}
use Rattle.mem_cells.specs.declared.cells.Celled.{Celled}
use Rattle.mem_cells.specs.FrameViews.{read_of}
use Rattle.question_form.specs.FrameQuestions.{heads_of_question}
use Rattle.bit_blast.specs.declared.input_places.InputPlaces.{InputPlaces}
use Rattle.bit_blast.specs.declared.input_places.PartRead.{PartRead}
use Rattle.bit_blast.specs.Places.{AreInOrder, gift_flag, gift_register, lists_of, number_in, reads_of}

-- each of the first places of a program has its number among those that draw, or none, and so many draw
pub record AreDrawn (u : UnrolledProgram) (n : ℕ) (drawn : List (Option ℕ)) (total : ℕ) : Type 0 where
  pub places : length drawn ≡ n
  pub each : (i : ℕ) → i < n → slice_index_or drawn i None ≡ (if (point_at u i).draws then Some (drawn_below u i) else None)
  pub all : total ≡ drawn_below u n

-- the places are those of the inputs of cells
pub record ArePlaces (u : UnrolledProgram) (c : Cells) (p : InputPlaces) : Type 0 where
  pub order : AreInOrder p
  pub heads : p.heads ≡ false
  pub registers : u.registers ≡ from_to p.first_register p.registers
  pub flags : u.flags ≡ p.flags
  pub drawn : AreDrawn u (length u.points) p.drawn.items p.choices
  pub no_register : (i n k : ℕ) → gift_register p i n ≡ Some k → ⊥
  pub no_flag : (i f k : ℕ) → gift_flag p i f ≡ Some k → ⊥
  pub given : p.first_byte ≡ p.first_gift
  pub reads : p.reads ≡ length c.addresses
  pub entry : (j : ℕ) → j < length c.addresses → slice_index_or (reads_of p 0) j None ≡ Some j
  pub entry_only : (part j k : ℕ) → slice_index_or (reads_of p part) j None ≡ Some k → (part ≡ 0) × (k ≡ j) × (j < length c.addresses)

-- for the number of each address that of a part's base read there, if there is one
pub record ArePartReads (part addresses : ℕ) (reads : List BaseRead) (places : List (Option ℕ)) : Type 0 where
  pub count : length places ≡ addresses
  pub right : (j k : ℕ) → slice_index_or places j None ≡ Some k → slice_get reads k ≡ Some (record { part = part; address = j })
  pub each : (j k : ℕ) → j < addresses → slice_get reads k ≡ Some (record { part = part; address = j }) → (q : ℕ) × (slice_index_or places j None ≡ Some q)

-- a base read more at the address of a number, if it is there
abbrev pub with_read : List (List PartRead) → (address : ℕ) → PartRead → List (List PartRead)
with_read [] j r = []
with_read (l ∷ ls) zero r = (l ++ r ∷ []) ∷ ls
with_read (l ∷ ls) (suc j) r = l ∷ with_read ls j r

-- so are those of each part
abbrev pub AreReads : (addresses : ℕ) → List BaseRead → List (List PartRead) → Type 0
AreReads n reads lists = (part : ℕ) → ArePartReads part n reads (map (number_in part) lists)

-- the flags that are given where this is done
abbrev pub given_flags : frames.UnrolledProgram → Action → List ℕ
given_flags u (Executes list) = []
given_flags u Arrives = []
given_flags u (StepsOver x) = filter (λ f. list_any (nat_eq f) x.flags) (from_to 0 u.flags)

-- where a contract is stepped over its registers and flags are given, as sets that have a bit for each
abbrev pub sets_of : Option Contract → ℕ × ℕ
sets_of None = (0, 0)
sets_of (Some x) = (x.registers, x.flags)

abbrev pub given_sets : Unrolled → Deed → ℕ × ℕ
given_sets u deeds.Row = (0, 0)
given_sets u deeds.Arrival = (0, 0)
given_sets u (deeds.Contract n) = sets_of (slice_get u.stepped.now n)

-- each of some numbers has its inputs, so many each, in their order from one on; others have none
pub record AreNumbered (numbers : List ℕ) (first width : ℕ) (places : List (Option ℕ)) : Type 0 where
  pub right : (n k : ℕ) → slice_index_or places n None ≡ Some k → (q : ℕ) × (slice_get numbers q ≡ Some n) × (k ≡ first + width * q)
  pub each : (n q : ℕ) → slice_get numbers q ≡ Some n → slice_index_or places n None ≡ Some (first + width * q)

-- one list more, in which some numbers have their inputs
pub record AreAdded (numbers : List ℕ) (first width : ℕ) (old new : List (List (Option ℕ))) (next : ℕ) : Type 0 where
  pub places : List (Option ℕ)
  pub are : AreNumbered numbers first width places
  pub more : new ≡ old ++ places ∷ []
  pub behind : next ≡ first + width * length numbers

-- how many inputs are given at a place, and the first of them
abbrev pub gift_width : frames.UnrolledProgram → (place : ℕ) → ℕ
gift_width u i = 32 * length (given_registers u (frames.point_at u i).does) + length (given_flags u (frames.point_at u i).does)

abbrev pub gift_first : frames.UnrolledProgram → (first place : ℕ) → ℕ
gift_first u f zero = f
gift_first u f (suc i) = gift_first u f i + gift_width u i

-- what is given at the first places has its inputs from one on, place by place
pub record AreGifts (u : frames.UnrolledProgram) (first count : ℕ) (register_lists flag_lists : List (List (Option ℕ))) (next : ℕ) : Type 0 where
  pub register_count : length register_lists ≡ count
  pub flag_count : length flag_lists ≡ count
  pub registers : (i : ℕ) → i < count → AreNumbered (given_registers u (frames.point_at u i).does) (gift_first u first i) 32 (slice_index_or register_lists i [])
  pub flags : (i : ℕ) → i < count → AreNumbered (given_flags u (frames.point_at u i).does)
      (gift_first u first i + 32 * length (given_registers u (frames.point_at u i).does)) 1 (slice_index_or flag_lists i [])
  pub behind : next ≡ gift_first u first count

-- The places are those of the inputs of cells of a frame.
pub record AreFramePlaces (u : frames.UnrolledProgram) (heads : Bool) (c : frame_cells.Cells) (p : InputPlaces) : Type 0 where
  pub order : AreInOrder p
  pub head_is : p.heads ≡ heads
  pub registers : u.registers ≡ from_to p.first_register p.registers
  pub flags : u.flags ≡ p.flags
  pub drawn : (i k : ℕ) → slice_index_or p.drawn.items i None ≡ Some k → slice_get (drawn_places u) k ≡ Some i
  pub drawn_each : (i k : ℕ) → slice_get (drawn_places u) k ≡ Some i → slice_index_or p.drawn.items i None ≡ Some k
  pub choices : p.choices ≡ length (drawn_places u)
  pub gifts : AreGifts u p.first_gift (length u.points) (lists_of p.gift_registers.items) (lists_of p.gift_flags.items) p.first_byte
  pub reads : p.reads ≡ length c.reads
  pub reads_at : AreReads (length c.addresses) c.reads (lists_of p.part_reads.items)

-- the cells are those of a program: there is no head, no call is stepped over, and at each address the memory at entry is read, in their order
pub record IsFlat (c : Celled) : Type 0 where
  pub heads : heads_of_question c.question.now ≡ false
  pub deeds : (q : Point) → Contains c.question.now.passive.now.unrolled.now.points.items q → q.deed ≡ deeds.Row
  pub reads : map read_of c.reads.items ≡ map as_read (from_to 0 (length c.addresses.items))

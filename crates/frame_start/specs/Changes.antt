-- What contract steps may change, and the data that have what they are given.
use Rattle.std.specs.Prelude.{ℕ, suc, ◌≡◌, ◌<◌, ◌-◌, ◌&&◌, nat_eq, nat_le, nat_lt, Bool, true, if◌then◌else◌, List, [], Option, Some, None, filter, length, map, slice_get, slice_index, slice_index_or}
use Rattle.std.specs.List.{list_any}
use Rattle.word_spec.specs.Memory.{memory_of}
use Rattle.word_spec.specs.RowFiles.{from_to}
use Rattle.word_spec.specs.State.{Written}
use Rattle.clause_spec.specs.Clauses.{valuation}
use Rattle.frame_spec.specs.FrameWalk.{Gift, UnrolledProgram}
use Rattle.frame_terms.specs.PassiveFrames.{gift_part, IsGiftAt}
use Rattle.term_spec.specs.Terms.{InRange, TermReading, RegisterNode, FlagNode}
use Rattle.term_dag.specs.declared.values.Reading.{Reading}
use Rattle.term_dag.specs.Readings.{reading_of}
use Rattle.notes_value.specs.FrameViews.{is_in}
use Rattle.start_value.specs.declared.start.Start.{Start}
use Rattle.start_value.specs.Starts.{written_of}
use Rattle.bit_blast.specs.declared.input_places.InputPlaces.{InputPlaces}
use Rattle.bit_blast.specs.Places.{IsNamed, IsRead, IsReadingAt}
use Rattle.frame_start.specs.declared.changed.Changed.{Changed}

-- the registers and the flags of the sets
unfoldable pub changed_registers : Changed → List ℕ
changed_registers x = filter (is_in x.registers) (from_to 0 32)

unfoldable pub changed_flags : Changed → List ℕ
changed_flags x = filter (is_in x.flags) (from_to 0 4)

-- the contract step of a point may change these, if one is made
abbrev pub AreChanges : UnrolledProgram → (place : ℕ) → Option Changed → Type 0
AreChanges u i None = (g : Gift) → ¬ IsGiftAt u i g
AreChanges u i (Some x) = (g : Gift) × IsGiftAt u i g × (g.registers ≡ changed_registers x) × (g.flags ≡ changed_flags x)

-- the register is one of the frame, among some numbers
abbrev pub is_given : InputPlaces → List ℕ → ℕ → Bool
is_given p registers n = nat_le p.first_register n && (nat_lt (n - p.first_register) p.registers && list_any (nat_eq n) registers)

-- these registers and flags of a part are inputs
pub record AreNamed (p : InputPlaces) (part : ℕ) (rs fs : List ℕ) : Type 0 where
  pub registers : (n : ℕ) → is_given p rs n ≡ true → IsNamed p (RegisterNode part n)
  pub flags : (f : ℕ) → f < p.flags → list_any (nat_eq f) fs ≡ true → IsNamed p (FlagNode part f)

-- the data have what a reading has of the gift that a part is: these registers and flags, and the bytes of base reads
pub record HasGiftAt (p : InputPlaces) (x : TermReading) (part addresses : ℕ) (rs fs : List ℕ) (r : Reading) : Type 0 where
  pub regs : (n : ℕ) → is_given p rs n ≡ true → (reading_of r).regs 0 n ≡ x.regs part n
  pub flags : (f : ℕ) → f < p.flags → list_any (nat_eq f) fs ≡ true → (reading_of r).flags 0 f ≡ x.flags part f
  pub base : (j k : ℕ) → j < addresses → IsRead p part j k → slice_index r.base.items j ≡ x.base part j

abbrev pub HasGift : InputPlaces → (values : List Bool) → (part addresses : ℕ) → (registers flags : List ℕ) → Reading → Type 0
HasGift p values part n registers flags r =
    (x : TermReading) → InRange x → IsReadingAt p (valuation values) x → HasGiftAt p x part n registers flags r

-- the value of a flag of a part, 0 but for some numbers
abbrev pub flag_among : TermReading → (part : ℕ) → List ℕ → ℕ → ℕ
flag_among x part flags f = if list_any (nat_eq f) flags then x.flags part f else 0

-- nothing as it is written, and the gift of a place
abbrev pub no_written : Written
no_written = record { regs = []; flags = 0; bytes = []; choices = [] }

abbrev pub gift_in : List Start → (place : ℕ) → Written
gift_in gifts i = slice_index_or (map written_of gifts) i no_written

-- the data of a gift, with the memory that is written
pub record IsOfGift (p : InputPlaces) (values : List Bool) (place addresses : ℕ) (g : Gift) (bytes : List (ℕ × ℕ)) (r : Reading) : Type 0 where
  pub has : HasGift p values (gift_part place) addresses g.registers g.flags r
  pub memory : (a : ℕ) → (reading_of r).mem 0 a ≡ memory_of bytes a
  pub base : length r.base.items ≡ addresses

-- the data of a gift are listed behind those of the head and those of the gifts before it
abbrev pub IsListedGift : UnrolledProgram → InputPlaces → (values : List Bool) → (addresses : ℕ) → List Start → List Reading → (place : ℕ) → Type 0
IsListedGift u p values n gifts others i =
    (g : Gift) → IsGiftAt u i g → (r : Reading) × (slice_get others (suc i) ≡ Some r) × IsOfGift p values i n g (gift_in gifts i).bytes r

-- the data of the head and of the first gifts, as they are written
pub record AreOthers (u : UnrolledProgram) (p : InputPlaces) (values : List Bool) (addresses places : ℕ) (head : Reading) (gifts : List Start)
    (others : List Reading) : Type 0 where
  pub first : slice_get others 0 ≡ Some head
  pub count : length others ≡ suc places
  pub each : (i : ℕ) → i < places → IsListedGift u p values addresses gifts others i

-- what contract steps may change of the frame's registers and flags are inputs
abbrev pub AreGiftsNamed : UnrolledProgram → InputPlaces → Type 0
AreGiftsNamed u p = (i : ℕ) (g : Gift) → IsGiftAt u i g → AreNamed p (gift_part i) g.registers g.flags

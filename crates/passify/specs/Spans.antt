-- Bytes from addresses on, as terms: those that are stored, and those that a contract may write; and a memory that has them of a part.
use Rattle.std.specs.Prelude.{ℕ, ◌≡◌, ◌≤◌, ◌<◌, ◌+◌, ◌-◌, ◌*◌, ◌^◌, ◌↔◌, ◌&&◌, ◌||◌, not, nat_eq, Bool, false, if◌then◌else◌, List, [], Option, Some, None, length, map, sum_by, Contains}
use Rattle.std.specs.List.{flat_map, list_any}
use Rattle.word_spec.specs.Words.{add}
use Rattle.word_spec.specs.Memory.{endian, span}
use Rattle.word_spec.specs.State.{State}
use Rattle.word_spec.specs.RowFiles.{from_to}
use Rattle.bilv_spec.specs.Points.{line_price, bytes_loaded}
use Rattle.term_spec.specs.Terms.{TermReading, InRange, TermNode, TakeNode, AreTyped, HasMemory, HasWidth, term_value, term_word}
use Rattle.term_spec.specs.Passive.{Tells}
use Rattle.walk_spec.specs.Unrolled.{AddressRun, Carried, is_in, state_at}
use Rattle.walk_spec.specs.Prices.{line_size}
use Rattle.frame_spec.specs.Frames.{Writes, Contract, written}
use Rattle.frame_laws.specs.FramePrices.{own_writes}
use Rattle.term_dag.specs.Made.{Grew, InputsFrom}
use Rattle.bil_terms.specs.declared.stored.Stored.{Stored}
use Rattle.note_terms.specs.declared.Now.{Now}
use Rattle.note_terms.specs.Lines.{IsStateOf}
use Rattle.question_form.specs.declared.unrolled.Unrolled.{Unrolled}
use Rattle.question_form.specs.FrameViews.{frame_unrolled_of, own_contract}
use Rattle.term_names.specs.Chosen.{at_entry}
use Rattle.passify.specs.declared.spans.Span.{Span}
use Rattle.passify.specs.declared.sweep.Sweep.{Sweep}

-- a span has a guard of 1 bit, an address that is a word, and a byte at least
pub record IsSpan (nodes : List TermNode) (s : Span) : Type 0 where
  pub guard : HasWidth nodes 1 s.guard.0
  pub address : HasWidth nodes 32 s.address.0
  pub some : 1 ≤ s.bytes
  pub few : s.bytes < 2 ^ 32

-- the bytes of a store
abbrev pub span_of : Stored → Span
span_of s = record { guard = s.guard; address = s.address; bytes = s.bytes }

-- the addresses of a span
abbrev pub addresses : List TermNode → TermReading → Span → List ℕ
addresses nodes x s = map (add 32 (term_word x nodes s.address.0)) (from_to 0 s.bytes)

-- and of some
abbrev pub addresses_of : List TermNode → TermReading → List Span → List ℕ
addresses_of nodes x spans = flat_map (addresses nodes x) spans

-- the byte at an address is in a span under a guard that is 1
abbrev pub IsSpanned : List TermNode → TermReading → List Span → ℕ → Type 0
IsSpanned nodes x spans a =
    (s : Span) × Contains spans s × (term_word x nodes s.guard.0 ≡ 1) × Contains (span (term_word x nodes s.address.0) s.bytes) a

-- The spans are what lines say in a state, each under one guard.
pub record AreSpans (old new : List TermNode) (big : Bool) (now : Now) (yes : ℕ) (writes : List Writes) (spans : List Span) : Type 0 where
  pub grew : Grew old new (sum_by (λ w. line_price w.says - 64) writes) (sum_by (λ w. bytes_loaded w.says) writes) 0 0
      (sum_by (λ w. 4 * line_size w.says + 8) writes)
  pub inputs : InputsFrom old new (λ m. ⊥)
  pub typed : AreTyped new
  pub each : (s : Span) → Contains spans s → IsSpan new s × (s.guard.0 ≡ yes)
  pub counts : map (λ s. s.bytes) spans ≡ map (λ w. w.count) writes
  pub written : (x : TermReading) → InRange x → (c : Carried) (at : ℕ) → IsStateOf old x now c at →
      addresses_of new x spans ≡ written (endian big) writes (state_at c at)

-- A memory has the bytes of the spans as a part has them, and the others as another memory.
pub record IsTaken (old new : List TermNode) (spans : List Span) (part base t : ℕ) : Type 0 where
  pub grew : Grew old new 0 0 (sum_by (λ s. s.bytes) spans) 0 (2 * length spans)
  pub inputs : InputsFrom old new (λ m. (1 ≤ length spans) × ((n i a : ℕ) × (m ≡ TakeNode n i a part)))
  pub typed : AreTyped new
  pub memory : HasMemory new t
  pub byte : (x : TermReading) → InRange x → (a : ℕ) → (term_value x new t).bytes a
      ≡ (if list_any (nat_eq a) (addresses_of old x spans) then x.mem part a else (term_value x old base).bytes a)

-- A bit tells whether some byte of the spans under guards that are 1 is kept: for any list of just those bytes.
pub record TellsKept (old new : List TermNode) (spans : List Span) (kept : List AddressRun) (t : ℕ) : Type 0 where
  pub grew : Grew old new (98 * (length spans * length kept)) 0 0 0 (1 + 10 * (length spans * length kept))
  pub inputs : InputsFrom old new (λ m. ⊥)
  pub typed : AreTyped new
  pub width : HasWidth new 1 t
  pub tells : (x : TermReading) → InRange x → (bytes : List ℕ) → ((a : ℕ) → Contains bytes a ↔ IsSpanned old x spans a) →
      Tells new x t (list_any (is_in kept) bytes)

-- the address is none of some
abbrev pub is_none_of : List ℕ → ℕ → Bool
is_none_of places a = not (list_any (nat_eq a) places)

-- a bit tells that another is 1, and an address is in none of the spans
abbrev pub IsAway : (old new : List TermNode) → (at rest : ℕ) → List Span → (t : ℕ) → TermReading → Type 0
IsAway old new at rest own t x =
    (p : Bool) → Tells old x rest p → Tells new x t (p && is_none_of (addresses_of old x own) (term_word x old at))

-- or that a byte of a span is in none of them
abbrev pub EscapesByte : (old new : List TermNode) → Span → (number before : ℕ) → List Span → (t : ℕ) → TermReading → Type 0
EscapesByte old new s number before own t x =
    (p g : Bool) → Tells old x before p → Tells old x s.guard.0 g →
    Tells new x t (p || (g && is_none_of (addresses_of old x own) (add 32 (term_word x old s.address.0) number)))

-- or that some byte of it is
abbrev pub EscapesSome : (old new : List TermNode) → Span → (before : ℕ) → List Span → (t : ℕ) → TermReading → Type 0
EscapesSome old new s before own t x =
    (p g : Bool) → Tells old x before p → Tells old x s.guard.0 g →
    Tells new x t (p || (g && list_any (is_none_of (addresses_of old x own)) (span (term_word x old s.address.0) s.bytes)))

-- how many bytes spans have
abbrev pub bytes_of : List Span → ℕ
bytes_of spans = sum_by (λ s. s.bytes) spans

-- A bit tells whether another is 1, or some byte of spans under guards that are 1 is in none of the spans that may be written.
pub record TellsOutside (old new : List TermNode) (spans own : List Span) (before t : ℕ) : Type 0 where
  pub grew : Grew old new (length spans + 162 * (length own * bytes_of spans)) 0 0 0 (2 * length spans + 12 * (length own * bytes_of spans))
  pub inputs : InputsFrom old new (λ m. ⊥)
  pub typed : AreTyped new
  pub width : HasWidth new 1 t
  pub tells : (x : TermReading) → InRange x → (p : Bool) → Tells old x before p → (bytes : List ℕ) →
      ((a : ℕ) → Contains bytes a ↔ IsSpanned old x spans a) → Tells new x t (p || list_any (is_none_of (addresses_of old x own)) bytes)

-- one of the bytes is none that the frame's own contract may write, if it has one
abbrev pub outside_by : Option Contract → (places bytes : List ℕ) → Bool
outside_by None places bytes = false
outside_by (Some x) places bytes = list_any (is_none_of places) bytes

-- 1 where the frame has a contract of its own
abbrev pub is_own : Option Contract → ℕ
is_own None = 0
is_own (Some x) = 1

-- A bit tells whether some byte of spans under guards that are 1 is kept, or is none that the frame's own contract may write.
pub record IsRefused (u : Unrolled) (old new : List TermNode) (spans own : List Span) (t : ℕ) : Type 0 where
  pub grew : Grew old new
      (98 * (length spans * length (frame_unrolled_of u).kept) + is_own (own_contract u) * (length spans + 162 * (length own * bytes_of spans))) 0 0 0
      (1 + 10 * (length spans * length (frame_unrolled_of u).kept) + is_own (own_contract u) * (2 * length spans + 12 * (length own * bytes_of spans)))
  pub inputs : InputsFrom old new (λ m. ⊥)
  pub typed : AreTyped new
  pub width : HasWidth new 1 t
  pub tells : (x : TermReading) → InRange x → (bytes : List ℕ) → ((a : ℕ) → Contains bytes a ↔ IsSpanned old x spans a) →
      Tells new x t (list_any (is_in (frame_unrolled_of u).kept) bytes || outside_by (own_contract u) (addresses_of old x own) bytes)

-- the bytes that the frame's own contract may write, in a state at entry
abbrev pub places_by : Unrolled → Option Contract → State → List ℕ
places_by u None entry = []
places_by u (Some x) entry = written (endian u.big) x.writes entry

abbrev pub own_places : Unrolled → State → List ℕ
own_places u entry = places_by u (own_contract u) entry

-- What is kept has the bytes that the frame's own contract may write, by the state at entry.
pub record AreOwn (u : Unrolled) (nodes : List TermNode) (s : Sweep) : Type 0 where
  pub each : (k : Span) → Contains s.own.items k → IsSpan nodes k
  pub count : length s.own.items ≡ own_writes (frame_unrolled_of u)
  pub written : (x : TermReading) → InRange x → addresses_of nodes x s.own.items ≡ own_places u (state_at (at_entry x) s.at)

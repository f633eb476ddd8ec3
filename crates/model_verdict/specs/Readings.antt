-- The reading that a model gives, and the data that stand for it.
use Rattle.std.specs.Prelude.{ℕ, ◌≡◌, ◌≤◌, ◌<◌, ◌+◌, ◌-◌, ◌^◌, Bool, true, false, if◌then◌else◌, List, Some, length, slice_index, slice_index_or}
use Rattle.word_spec.specs.Words.{bit_at}
use Rattle.word_spec.specs.Memory.{Memory}
use Rattle.machine_spec.specs.StateText.{Layout, register_at}
use Rattle.bilv_spec.specs.Questions.{Reading, IsReading}
use Rattle.term_spec.specs.Terms.{TermReading}
use Rattle.walk_spec.specs.Unrolled.{ByteRun, UnrolledProgram, byte_of_runs, is_flag_of, is_register_of, point_at}
use Rattle.known_bytes.specs.declared.listing.Known.{Known}
use Rattle.table_run.specs.Traces.{byte_over}
use Rattle.model_text.specs.declared.model.Model.{Model}
use Rattle.model_verdict.specs.Models.{memory_over}

-- By number: whether the row of the point reads the choice. The numbers are those of the places.
pub record AreDrawn (u : UnrolledProgram) (numbers : List ℕ) (drawn : List Bool) : Type 0 where
  pub count : length drawn ≡ length u.points
  pub each : (i : ℕ) → i < length u.points → slice_index_or drawn (slice_index numbers i) false ≡ (point_at u i).draws

-- The data are those of a model; a choice is drawn, or 0.
pub record IsOfModel (u : UnrolledProgram) (layout : Layout) (numbers : List ℕ) (m : Model) (y : TermReading) : Type 0 where
  pub regs : (i : ℕ) → i < length m.registers.items → y.regs 0 (layout.first + i) ≡ slice_index m.registers.items i
  pub flags : (f : ℕ) → f < 8 → y.flags 0 f ≡ bit_at f m.flags
  pub mem : y.mem 0 ≡ memory_over u.known m.memory
  pub choice : (i : ℕ) → i < length u.points →
      y.choice i ≡ (if (point_at u i).draws then slice_index m.choices.items (slice_index numbers i) else 0)

-- the data stand for a reading: where a place does not draw, the choice is 0, whatever the reading's is
pub record StandsFor (u : UnrolledProgram) (y : TermReading) (r : Reading) : Type 0 where
  pub reading : IsReading r
  pub pc : r.state.pc ≡ u.entry
  pub regs : (n : ℕ) → is_register_of u n ≡ true → y.regs 0 n ≡ r.state.regs n
  pub flags : (f : ℕ) → is_flag_of u f ≡ true → y.flags 0 f ≡ r.state.flags f
  pub mem : y.mem 0 ≡ r.state.mem
  pub choice : (i : ℕ) → i < length u.points → y.choice i ≡ (if (point_at u i).draws then r.choice (point_at u i).point else 0)

-- the state of a reading is that of a model
pub record IsModelled (u : UnrolledProgram) (layout : Layout) (m : Model) (r : Reading) : Type 0 where
  pub reading : IsReading r
  pub pc : r.state.pc ≡ u.entry
  pub regs : r.state.regs ≡ register_at layout m.registers.items
  pub flags : r.state.flags ≡ (λ f. bit_at f m.flags)
  pub mem : r.state.mem ≡ memory_over u.known m.memory

-- its choices are those of a model, whose points have these numbers by their places
abbrev pub TakesNumbers : UnrolledProgram → (numbers : List ℕ) → Model → Reading → Type 0
TakesNumbers u numbers m r = (i : ℕ) → i < length u.points → r.choice (point_at u i).point ≡ slice_index m.choices.items (slice_index numbers i)

-- a memory has the bytes of runs
abbrev pub HasKnown : List ByteRun → Memory → Type 0
HasKnown runs m = (a b : ℕ) → a < 2 ^ 32 → byte_of_runs runs a ≡ Some b → m a ≡ b

-- a list of bytes over a fill has the bytes of a run, those behind the ones that the file has being 0
abbrev pub HasRun : (fill : ℕ) → List (ℕ × ℕ) → Known → Type 0
HasRun fill bytes k = (i : ℕ) → i ≤ k.last - k.first → byte_over fill bytes (k.first + i) ≡ slice_index k.bytes.now i

-- bytes from a place up to another one, those behind the list being 0, are all the fill
abbrev pub AreFill : List ℕ → (fill low high : ℕ) → Type 0
AreFill bytes fill low high = (i : ℕ) → low ≤ i → i < high → slice_index bytes i ≡ fill

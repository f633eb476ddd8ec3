-- Runs over a memory that is filled as it is read.
use Rattle.std.specs.Prelude.{ℕ, ◌≡◌, ◌≢◌, ◌<◌, ◌+◌, ◌^◌, ◌↔◌, Bool, true, false, List, [], ◌∷◌, ◌++◌, ◌⊎◌, Option, Some, None, ◌==◌, ◌||◌, Contains, length, if◌then◌else◌}
use Rattle.std.specs.Ordering.{nat_cmp}
use Rattle.std.specs.BTreeSet.{BTreeSet, contains}
use Rattle.word_spec.specs.Memory.{Memory}
use Rattle.word_spec.specs.State.{State, Written, IsState}
use Rattle.machine_spec.specs.Machine.{Row, addresses}
use Rattle.machine_spec.specs.MachineLaws.{with_memory}
use Rattle.machine_spec.specs.StateText.{Layout}
use Rattle.bilv_spec.specs.Elf.{Cell, kept}
use Rattle.bilv_spec.specs.Run.{Program, Place, Step, Stops, Arrives, Exits, Run, Going, Exited, Failed, Turned, false_assert, row_at}
use Rattle.bilv_spec.specs.Points.{is_known_at, file_row}
use Rattle.bilv_spec.specs.Questions.{Reading, point_of, read_run}
use Rattle.bilv_spec.specs.Reports.{FoundLeft, found_by}
use Rattle.bilv_spec.specs.Scripts.{draws}
use Rattle.bilv_spec.specs.Verdict.{IsEntryState}
use Rattle.bilv_spec.specs.Answers.{start_in}
use Rattle.model_spec.specs.Reads.{line_reads, assert_reads}
use Rattle.notes_value.specs.declared.notes.Notes.{Notes}
use Rattle.notes_index.specs.Indexed.{AreIndexed}
use Rattle.state_text.specs.Starts.{event_of}
use Rattle.table_run.specs.declared.ending.Ending.{Ending}
use Rattle.table_run.specs.declared.ending.Ending.TheVariants as ending
use Rattle.table_run.specs.declared.ending.StepEnd.{StepEnd}
use Rattle.table_run.specs.declared.ending.StepEnd.TheVariants as end
use Rattle.table_run.specs.declared.reads.Stage.{Stage}
use Rattle.table_run.specs.declared.reads.Stage.TheVariants as stage

-- ---- the model that is run

-- the byte that a list gives over a fill: that of the address's entry, and else the fill
abbrev pub byte_over : (fill : ℕ) → List (ℕ × ℕ) → ℕ → ℕ
byte_over fill [] a = fill
byte_over fill (e ∷ rest) a = if a == e.0 then e.1 else byte_over fill rest a

-- a memory has these bytes where the file gives none
abbrev pub IsOver : Program → (fill : ℕ) → List (ℕ × ℕ) → Memory → Type 0
IsOver p fill bytes model = (a : ℕ) → a < 2 ^ 32 → is_known_at p a ≡ false → model a ≡ byte_over fill bytes a

-- an entry state with the registers and flags of a start, and with these bytes where the file gives none
pub record IsModelState (p : Program) (form : Layout) (w : Written) (fill : ℕ) (bytes : List (ℕ × ℕ)) (s : State) : Type 0 where
  pub entry : IsEntryState p s
  pub regs : s.regs ≡ (start_in p form w).state.regs
  pub flags : s.flags ≡ (start_in p form w).state.flags
  pub mem : IsOver p fill bytes s.mem

-- At each step at which the run of a reading draws, the choice of the step is that of the point.
abbrev pub TakesChoices : Program → (k : ℕ) → Reading → (choices : ℕ → ℕ) → Type 0
TakesChoices p k r choices =
    (n turns : ℕ) (c : Place) → read_run p k r n ≡ Going turns n c → draws (file_row p c.state.pc) ≡ true → choices n ≡ r.choice (point_of turns c)

-- ---- what is answered

-- the number of the last step
abbrev pub last_of : Ending → ℕ
last_of (ending.Exit at step) = step
last_of (ending.Failed event at step) = step
last_of (ending.Turned at step) = step
last_of (ending.Left at step) = step

-- what a run comes to in at most so many steps
abbrev pub ComesTo : (run : ℕ → Run) → (limit : ℕ) → Ending → Type 0
ComesTo run limit (ending.Exit at step) = (step < limit) × (run (step + 1) ≡ Exited at step)
ComesTo run limit (ending.Failed event at step) = (step < limit) × (run (step + 1) ≡ Failed (event_of event) at step)
ComesTo run limit (ending.Turned at step) = (step < limit) × (run (step + 1) ≡ Turned at step)
ComesTo run limit (ending.Left at step) = (step + 1 ≡ limit) × (found_by (run step) (run (step + 1)) ≡ FoundLeft at step)

-- The bytes of a memory at these addresses, but for those that the file gives and for those that are 0.
abbrev pub AreListed : Program → Memory → (places : List ℕ) → (bytes : List (ℕ × ℕ)) → Type 0
AreListed p model places bytes =
    (a b : ℕ) → Contains bytes (a, b) ↔ ((a < 2 ^ 32) × Contains places a × (is_known_at p a ≡ false) × (b ≡ model a) × (b ≢ 0))

-- ---- what is read before a step, and before an exit is judged

-- the program without its ensure lines: its exits are not judged
abbrev pub unjudged : Program → Program
unjudged p = record p { notes = record p.notes { ensures = [] } }

-- the row that a step comes to, unless an assert line is false or it can't be fetched
abbrev pub reached_by : Option ℕ → Program → State → Option Row
reached_by (Some line) p s = None
reached_by None p s = row_at p (p.word s) s.pc

abbrev pub reached_row : Program → (entry s : State) → Option Row
reached_row p entry s = reached_by (false_assert p.machine.endian p.notes.asserts s entry) p s

-- the bytes that a row loads and stores
abbrev pub row_loads : Option Row → State → List ℕ
row_loads None s = []
row_loads (Some row) s = addresses (row.loaded s)

abbrev pub row_stores : Option Row → State → List ℕ
row_stores None s = []
row_stores (Some row) s = addresses (row.stored s)

-- what a step reads before its row is judged
abbrev pub early_reads : Program → (entry s : State) → List ℕ
early_reads p entry s = assert_reads p.machine.endian p.notes.asserts s entry ++ row_loads (reached_row p entry s) s

-- what is read at a stage of a run
abbrev pub stage_reads : Program → Stage → (entry s : State) → List ℕ
stage_reads p stage.Entry entry s = line_reads p.machine.endian p.notes.requires s entry
stage_reads p (stage.Step index) entry s = early_reads p entry s
stage_reads p stage.Exit entry s = line_reads p.machine.endian p.notes.ensures s entry

-- ---- a run whose memory is filled

-- the byte at an address is the model's: the file gives it, or it was filled
abbrev pub is_met : Program → BTreeSet ℕ → ℕ → Bool
is_met p met a = is_known_at p a || contains nat_cmp met a

-- all of these addresses are met
abbrev pub AreMet : Program → BTreeSet ℕ → List ℕ → Type 0
AreMet p met places = (a : ℕ) → Contains places a → is_met p met a ≡ true

-- The memories at entry and now have the bytes of the model's memory and of m, where these are met; elsewhere m is the model's.
pub record IsFilled (p : Program) (model : Memory) (met : BTreeSet ℕ) (entry now m : Memory) : Type 0 where
  pub entry_same : (a : ℕ) → a < 2 ^ 32 → is_met p met a ≡ true → model a ≡ entry a
  pub now_same : (a : ℕ) → a < 2 ^ 32 → is_met p met a ≡ true → m a ≡ now a
  pub other : (a : ℕ) → a < 2 ^ 32 → is_met p met a ≡ false → m a ≡ model a

-- some bytes were filled, if any, and nothing else has changed
pub record IsFuller (p : Program) (fill : ℕ) (bytes : List (ℕ × ℕ)) (met more : BTreeSet ℕ) (entry later now next : State) : Type 0 where
  pub entry_is : later ≡ with_memory entry later.mem
  pub now_is : next ≡ with_memory now next.mem
  pub keeps : (a : ℕ) → is_met p met a ≡ true → is_met p more a ≡ true
  pub filled : (model m : Memory) → IsOver p fill bytes model → IsFilled p model met entry.mem now.mem m → IsFilled p model more later.mem next.mem m
  pub grows : ((more ≡ met) × (later ≡ entry) × (next ≡ now)) ⊎ (length met.keys < length more.keys)

-- the set has those of these addresses whose byte the file does not give
abbrev pub IsReadSet : Program → (places : List ℕ) → BTreeSet ℕ → Type 0
IsReadSet p places read = (a : ℕ) → (contains nat_cmp read a ≡ true) ↔ ((a < 2 ^ 32) × Contains places a × (is_known_at p a ≡ false))

-- a step is read with the index of the notes
abbrev pub IsStage : Notes → Stage → Type 0
IsStage n (stage.Step index) = AreIndexed n index.now
IsStage n other = Unit {0}

-- The code's run stands where a run by the words of the file, from an entry state, does: its states are that run's but for bytes that are not met.
pub record IsRunAt (p : Program) (begun : State) (met : BTreeSet ℕ) (entry now : State) (stack : List ℕ) (c : Place) : Type 0 where
  pub entry_is : entry ≡ with_memory begun entry.mem
  pub now_is : now ≡ with_memory c.state now.mem
  pub stack_is : c.stack ≡ stack
  pub filled : IsFilled p begun.mem met entry.mem now.mem c.state.mem
  pub kept_is : (a : ℕ) (cell : Cell) → a < 2 ^ 32 → p.loaded a ≡ Some cell → kept cell ≡ true → c.state.mem a ≡ cell.byte
  pub is_state : IsState c.state

-- a step's end is that of the other run's step
abbrev pub IsTracedEnd : Program → (begun : State) → BTreeSet ℕ → (entry now : State) → (stack : List ℕ) → StepEnd → Step → Type 0
IsTracedEnd p begun met entry now stack (end.Stops event) x = x ≡ Stops (event_of event)
IsTracedEnd p begun met entry now stack end.Exits x = (s : State) × (x ≡ Exits s)
IsTracedEnd p begun met entry now stack end.Arrives x = (d : Place) × (x ≡ Arrives d) × IsRunAt p begun met entry now stack d

-- the bytes of a list over a fill at some addresses, but for those that are 0
abbrev pub bytes_over : (fill : ℕ) → List (ℕ × ℕ) → List ℕ → List (ℕ × ℕ)
bytes_over fill bytes [] = []
bytes_over fill bytes (a ∷ places) =
    if byte_over fill bytes a == 0 then bytes_over fill bytes places else (a, byte_over fill bytes a) ∷ bytes_over fill bytes places

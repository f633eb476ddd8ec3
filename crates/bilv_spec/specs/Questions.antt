-- Readings, and the three questions that are asked of them. A question is true of exactly those readings that its clauses and its script are satisfied by.
use Rattle.std.specs.Prelude.{ℕ, zero, suc, ◌≡◌, ◌<◌, ◌^◌, Bool, true, [], Some, None}
use Rattle.machine_spec.specs.Machine.{IsAtPlace}
use Rattle.word_spec.specs.State.{State, IsState}
use Rattle.bilv_spec.specs.Elf.{Cell}
use Rattle.bilv_spec.specs.Run.{Program, Place, Run, Going, Exited, Failed, Turned, step, after_step, false_line}
use Rattle.machine_spec.specs.Endings.{Event}
use Rattle.bilv_spec.specs.Points.{Point, file_word}
use Rattle.bilv_spec.specs.Verdict.{IsEntryState}
use Rattle.call_spec.specs.Calls.{Question, EntryQuestion, FailQuestion, TurnQuestion}

-- a state at entry, and a choice for each point
pub record Reading : Type 0 where
  pub state : State
  pub choice : Point → ℕ

-- what a reading can hold: words of 32 bits, flags, bytes, and choices 0 to 3
pub record IsReading (r : Reading) : Type 0 where
  pub state : IsState r.state
  pub choice : (point : Point) → r.choice point < 4

-- the program that takes the words that it executes from the file, whatever the memory holds
abbrev pub by_file : Program → Program
by_file p = record p { word = λ s a. file_word p a }

-- the point at which a run stands
abbrev pub point_of : (turns : ℕ) → Place → Point
point_of turns c = record { turns = turns; stack = c.stack; at = c.state.pc }

-- the run of a reading after one more step, which takes the choice of the point at which the run stands
abbrev pub read_on : Program → ℕ → Reading → Run → Run
read_on p k r (Going turns n c) = after_step k turns n c.state.pc (step (by_file p) r.state c (r.choice (point_of turns c)))
read_on p k r (Exited at n) = Exited at n
read_on p k r (Failed e at n) = Failed e at n
read_on p k r (Turned at n) = Turned at n

-- the run of a reading after a number of steps, for at most k backward transfers
unfoldable pub read_run : Program → ℕ → Reading → ℕ → Run
read_run p k r zero = Going 0 0 (record { state = r.state; stack = [] })
read_run p k r (suc n) = read_on p k r (read_run p k r n)

-- the run of the reading has an event before its last backward transfer
abbrev pub ReadingFails : Program → ℕ → Reading → Type 0
ReadingFails p k r = (steps at n : ℕ) × (e : Event) × (read_run p k r steps ≡ Failed e at n)

-- the run of the reading makes one backward transfer too many
abbrev pub ReadingTurns : Program → ℕ → Reading → Type 0
ReadingTurns p k r = (steps at n : ℕ) × (read_run p k r steps ≡ Turned at n)

-- how the run of the reading ends where the question is true of it
abbrev pub EndsBy : Program → ℕ → Reading → Question → Type 0
EndsBy p k r EntryQuestion = Unit {0}
EndsBy p k r FailQuestion = ReadingFails p k r
EndsBy p k r TurnQuestion = ReadingTurns p k r

-- the question is true of the reading
pub record IsTrue (p : Program) (k : ℕ) (r : Reading) (question : Question) : Type 0 where
  pub choice : (point : Point) → r.choice point < 4
  pub entry : IsEntryState p r.state
  pub ends : EndsBy p k r question

-- An entry state as far as some bytes of the file are asked: a test of addresses tells which. The bytes that are not asked are free.
pub record IsEntryStateOver (p : Program) (asked : ℕ → Bool) (s : State) : Type 0 where
  pub state : IsState s
  pub pc : s.pc ≡ p.entry
  pub link : IsAtPlace p.machine.narrow (s.regs p.machine.link)
  pub bytes : (a : ℕ) (c : Cell) → a < 2 ^ 32 → p.loaded a ≡ Some c → asked a ≡ true → s.mem a ≡ c.byte
  pub requires : false_line p.machine.endian p.notes.requires s s ≡ None

-- The question over these bytes. It is true of each reading that the question itself is true of, where the bytes are kept or fixed.
pub record IsTrueOver (p : Program) (asked : ℕ → Bool) (k : ℕ) (r : Reading) (question : Question) : Type 0 where
  pub choice : (point : Point) → r.choice point < 4
  pub entry : IsEntryStateOver p asked r.state
  pub ends : EndsBy p k r question

-- some reading makes the question true
abbrev pub IsSatisfiable : Program → ℕ → Question → Type 0
IsSatisfiable p k question = (r : Reading) × IsTrue p k r question

-- Laws of questions.
use Rattle.std.specs.Prelude.{ℕ, ◌≡◌, ◌↔◌, Bool, true}
use Rattle.word_spec.specs.State.{State}
use Rattle.bilv_spec.specs.Run.{Program, Place, Going, run}
use Rattle.machine_spec.specs.Endings.{Start}
use Rattle.bilv_spec.specs.Verdict.{Verdict, Holds, Vacuous, Fails, Unroll, IsEntryState, IsStart, RunFails, RunTurns, IsRight}
use Rattle.bilv_spec.specs.Points.{is_known_at}
use Rattle.bilv_spec.specs.Questions.{Reading, IsTrue, IsTrueOver, IsSatisfiable, by_file, point_of, EndsBy}
use Rattle.call_spec.specs.Calls.{Question, EntryQuestion, FailQuestion, TurnQuestion}
use Rattle.bilv_spec.specs.PointLaws.{HasLawfulRows, ReadsMemory}

-- a question that is true of a reading is true over each set of kept and fixed bytes
abbrev pub QuestionOver : Type 0
QuestionOver = (p : Program) (asked : ℕ → Bool) (k : ℕ) (r : Reading) (question : Question) → ((a : ℕ) → asked a ≡ true → is_known_at p a ≡ true) →
    IsTrue p k r question → IsTrueOver p asked k r question

-- a start that takes, at each step, the choice of the point that its run meets
pub record Follows (p : Program) (k : ℕ) (r : Reading) (start : Start) : Type 0 where
  pub state : start.state ≡ r.state
  pub choices : (n turns : ℕ) (c : Place) → run (by_file p) k start n ≡ Going turns n c → start.choices n ≡ r.choice (point_of turns c)

-- how the run of a start ends where the question is true
abbrev pub StartEndsBy : Program → ℕ → Start → Question → Type 0
StartEndsBy p k start EntryQuestion = Unit {0}
StartEndsBy p k start FailQuestion = RunFails (by_file p) k start
StartEndsBy p k start TurnQuestion = RunTurns (by_file p) k start

-- the run of a reading ends as that of each start that follows it, and there is such a start
abbrev pub ReadingIsStart : Type 0
ReadingIsStart = (p : Program) (k : ℕ) (r : Reading) (question : Question) →
    ((start : Start) × Follows p k r start)
    × ((start : Start) → Follows p k r start → EndsBy p k r question ↔ StartEndsBy p k start question)

-- some reading makes the question true exactly where the program has such a run from an entry state
abbrev pub HasRun : Program → ℕ → Question → Type 0
HasRun p k EntryQuestion = (s : State) × IsEntryState p s
HasRun p k FailQuestion = (start : Start) × IsStart p start × RunFails p k start
HasRun p k TurnQuestion = (start : Start) × IsStart p start × RunTurns p k start

-- the questions are about all runs
abbrev pub QuestionsAreOfRuns : Type 0
QuestionsAreOfRuns = (p : Program) → HasLawfulRows p → ReadsMemory p → (k : ℕ) (question : Question) → IsSatisfiable p k question ↔ HasRun p k question

-- the verdict that the three questions give
abbrev pub IsDecided : Program → ℕ → Verdict → Type 0
IsDecided p k Vacuous = ¬ IsSatisfiable p k EntryQuestion
IsDecided p k Fails = IsSatisfiable p k FailQuestion
IsDecided p k Unroll = (¬ IsSatisfiable p k FailQuestion) × IsSatisfiable p k TurnQuestion
IsDecided p k Holds = IsSatisfiable p k EntryQuestion × (¬ IsSatisfiable p k FailQuestion) × (¬ IsSatisfiable p k TurnQuestion)

-- and it is the right one
abbrev pub QuestionsDecide : Type 0
QuestionsDecide = (p : Program) → HasLawfulRows p → ReadsMemory p → (k : ℕ) (v : Verdict) → IsDecided p k v ↔ IsRight p k v

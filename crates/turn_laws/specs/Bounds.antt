-- Two bounds on backward transfers: how the runs, the questions and the verdicts within the one are those within the other.
use Rattle.std.specs.Prelude.{ℕ, ◌≡◌, ◌≢◌, ◌≤◌, ◌⊎◌, ◌↔◌, Bool}
use Rattle.machine_spec.specs.Endings.{Start}
use Rattle.bilv_spec.specs.Run.{Program, Run, Going, Exited, Failed, Turned, run}
use Rattle.bilv_spec.specs.Verdict.{IsStart, RunExits, RunFails, RunTurns, Verdict, Holds, Unroll, IsRight}
use Rattle.bilv_spec.specs.Questions.{Reading, read_run, IsTrueOver}
use Rattle.bilv_spec.specs.Evidence.{IsDue}
use Rattle.call_spec.specs.Calls.{Question, EntryQuestion, FailQuestion, TurnQuestion}

-- the run has made one backward transfer too many
abbrev pub HasTurned : Run → Type 0
HasTurned (Going turns n c) = ⊥
HasTurned (Exited at n) = ⊥
HasTurned (Failed e at n) = ⊥
HasTurned (Turned at n) = Unit {0}

-- after any number of steps a run within a bound has made one backward transfer too many, or is where the run within a greater bound is
abbrev pub RunsGoAlike : Type 0
RunsGoAlike = (p : Program) (k m : ℕ) → k ≤ m → (start : Start) (steps : ℕ) →
    HasTurned (run p k start steps) ⊎ (run p m start steps ≡ run p k start steps)

-- so it is with the runs of a reading
abbrev pub ReadingsGoAlike : Type 0
ReadingsGoAlike = (p : Program) (k m : ℕ) → k ≤ m → (r : Reading) (steps : ℕ) →
    HasTurned (read_run p k r steps) ⊎ (read_run p m r steps ≡ read_run p k r steps)

-- how a run ends within two bounds
pub record HasEnds (p : Program) (k m : ℕ) (start : Start) : Type 0 where
  pub exits : RunExits p k start → RunExits p m start
  pub fails : RunFails p k start → RunFails p m start
  pub turns : RunTurns p m start → RunTurns p k start
  pub failed : RunFails p m start → RunFails p k start ⊎ RunTurns p k start

-- within a greater bound, runs end as within the smaller one, as far as they do not make one backward transfer too many within that
abbrev pub EndsRise : Type 0
EndsRise = (p : Program) (k m : ℕ) → k ≤ m → (start : Start) → HasEnds p k m start

-- of which of two bounds' questions, over the same bytes, a reading makes which true
pub record AreAlike (p : Program) (asked : ℕ → Bool) (k m : ℕ) (r : Reading) : Type 0 where
  pub entry : IsTrueOver p asked k r EntryQuestion ↔ IsTrueOver p asked m r EntryQuestion
  pub fails : IsTrueOver p asked k r FailQuestion → IsTrueOver p asked m r FailQuestion
  pub turns : IsTrueOver p asked m r TurnQuestion → IsTrueOver p asked k r TurnQuestion
  pub failed : IsTrueOver p asked m r FailQuestion → IsTrueOver p asked k r FailQuestion ⊎ IsTrueOver p asked k r TurnQuestion

-- So where no reading makes the turn question of a bound true, none makes that of a greater bound true, and the fail questions of both are true of the same
-- readings.
abbrev pub QuestionsRise : Type 0
QuestionsRise = (p : Program) (asked : ℕ → Bool) (k m : ℕ) → k ≤ m → (r : Reading) → AreAlike p asked k m r

-- each verdict but the one that the bound is too small is right within every greater bound
abbrev pub VerdictsRise : Type 0
VerdictsRise = (p : Program) (k m : ℕ) → k ≤ m → (v : Verdict) → v ≢ Unroll → IsRight p k v → IsRight p m v

-- and that all runs return without an event is right within each smaller bound that no run exceeds
abbrev pub HoldsFalls : Type 0
HoldsFalls = (p : Program) (k m : ℕ) → k ≤ m → ((start : Start) → IsStart p start → ¬ RunTurns p k start) → IsRight p m Holds → IsRight p k Holds

-- so a question that is due is due within every greater bound; the turn question, where no run makes one backward transfer too many
abbrev pub DuesRise : Type 0
DuesRise = (p : Program) (k m : ℕ) → k ≤ m → (question : Question) →
    (question ≡ TurnQuestion → (start : Start) → IsStart p start → ¬ RunTurns p k start) → IsDue p k question → IsDue p m question

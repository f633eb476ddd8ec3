-- What a smaller bound on backward transfers comes to for the budget's bound.
use Rattle.std.specs.Prelude.{ℕ, ◌≤◌}
use Rattle.machine_spec.specs.Endings as endings
use Rattle.machine_spec.specs.StateText.{Layout}
use Rattle.bilv_spec.specs.Run.{Program}
use Rattle.bilv_spec.specs.Evidence.{Refutes}
use Rattle.bilv_spec.specs.Verdict as verdicts
use Rattle.bilv_spec.specs.Verdict.{IsRight, IsStart, RunTurns}
use Rattle.call_spec.specs.Calls.{FailQuestion, TurnQuestion}
use Rattle.cnf_form.specs.Views.{proof_of}
use Rattle.walk_spec.specs.Unrolled.{UnrolledProgram}
use Rattle.verdict.specs.Grounds.{IsGround, IsShownBy}
use Rattle.verdict.specs.Verdicts.{IsVerdict}
use Rattle.verdict.specs.declared.early.Early.{Early}
use Rattle.verdict.specs.declared.early.Early.TheVariants.{Settled, Turns, Open}
use Rattle.verdict.specs.declared.early.NoTurns.{NoTurns}
use Rattle.verdict.specs.declared.early.NoTurns.TheVariants as none
use Rattle.verdict.specs.declared.verdicts.Judged.{Judged}
use Rattle.call_form.specs.declared.budget.Budget.{Budget}

-- the unrolled program is that of a program for at most so many backward transfers
pub record IsSmaller (p : Program) (most : ℕ) (layout : Layout) (u : UnrolledProgram) : Type 0 where
  pub turns : ℕ
  pub few : turns ≤ most
  pub ground : IsGround p turns layout u

-- where no run makes more backward transfers than a smaller bound, both questions within the budget's bound are refuted, or the run from the start fails
abbrev pub AreNoTurns : Program → ℕ → Layout → NoTurns → Type 0
AreNoTurns p k layout (none.Refuted fail turn) = Refutes p k FailQuestion (proof_of fail) × Refutes p k TurnQuestion (proof_of turn)
AreNoTurns p k layout (none.Fails start) = IsShownBy p k layout FailQuestion start
AreNoTurns p k layout none.Turns = Unit {0}
AreNoTurns p k layout none.Spent = Unit {0}

-- no run makes more backward transfers than the bound for which the program is unrolled
abbrev pub IsEnough : Program → Layout → UnrolledProgram → Type 0
IsEnough p layout u = (k : ℕ) → IsGround p k layout u → (start : endings.Start) → IsStart p start → ¬ RunTurns p k start

-- so it is where the questions within that bound say that no run makes more
abbrev pub AreNoTurnsBy : (Enough : Type 0) → NoTurns → Type 0
AreNoTurnsBy Enough (none.Refuted fail turn) = Enough
AreNoTurnsBy Enough (none.Fails start) = Enough
AreNoTurnsBy Enough none.Turns = Unit {0}
AreNoTurnsBy Enough none.Spent = Unit {0}

-- and where they settle the verdict
abbrev pub IsSettledBy : (Enough : Type 0) → Early → Type 0
IsSettledBy Enough (Settled v) = Enough
IsSettledBy Enough Turns = Unit {0}
IsSettledBy Enough Open = Unit {0}

-- The verdict is right; and where the program holds within the budget's bound, it does so within one that is no greater.
pub record IsJudged (p : Program) (layout : Layout) (b : Budget) (j : Judged) : Type 0 where
  pub verdict : IsVerdict p layout b j.verdict
  pub few : j.turns ≤ b.unroll
  pub holds : IsRight p b.unroll verdicts.Holds → IsRight p j.turns verdicts.Holds

-- the verdict within the budget's bound, if it is settled
abbrev pub IsEarly : Program → Layout → Budget → Early → Type 0
IsEarly p layout b (Settled v) = IsVerdict p layout b v
IsEarly p layout b Turns = Unit {0}
IsEarly p layout b Open = Unit {0}

-- What a question of a program comes to.
use Rattle.std.specs.Prelude.{ℕ, ◌≡◌, ◌≤◌, ◌+◌, Bool, List, length}
use Rattle.clause_spec.specs.Refutation.{Proof}
use Rattle.machine_spec.specs.StateText.{Layout, IsWritten, last_step}
use Rattle.bilv_spec.specs.Run.{Program}
use Rattle.machine_spec.specs.Endings as endings
use Rattle.bilv_spec.specs.Points.{is_known_at}
use Rattle.bilv_spec.specs.PointLaws.{HasLawfulRows, ReadsMemory}
use Rattle.bilv_spec.specs.Verdict.{IsEntryState, IsStart, RunFails, RunTurns}
use Rattle.call_spec.specs.Calls.{Question, EntryQuestion, FailQuestion, TurnQuestion}
use Rattle.bilv_spec.specs.Answers.{start_in}
use Rattle.bilv_spec.specs.Evidence.{Refutes, Spends}
use Rattle.walk_spec.specs.Unrolled.{UnrolledProgram}
use Rattle.walk_spec.specs.Unrolling.{IsUnrolling, IsLaidOut}
use Rattle.term_spec.specs.WalkQuestions.{is_asked}
use Rattle.walk_laws.specs.Layers.{IsFitting}
use Rattle.cnf_form.specs.Views.{proof_of}
use Rattle.start_value.specs.Starts.{written_of}
use Rattle.start_value.specs.declared.start.Start.{Start}
use Rattle.verdict.specs.declared.verdicts.Answered.{Answered}
use Rattle.verdict.specs.declared.verdicts.Answered.TheVariants.{Sat, Refuted, Spent}

-- the unrolled program is that of a program, over a form of states in which the steps of its points can be written
pub record IsGround (p : Program) (k : ℕ) (layout : Layout) (u : UnrolledProgram) : Type 0 where
  pub lawful : HasLawfulRows p
  pub unrolling : IsUnrolling p k u
  pub fitting : IsFitting u
  pub laid : IsLaidOut layout u
  pub steps : length u.points ≤ last_step + 1

-- a start has a question's run: it is from an entry state, and its run has an event, or makes one backward transfer too many
abbrev pub HasRunOf : Program → (k : ℕ) → Question → endings.Start → Type 0
HasRunOf p k EntryQuestion start = IsEntryState p start.state
HasRunOf p k FailQuestion start = IsStart p start × RunFails p k start
HasRunOf p k TurnQuestion start = IsStart p start × RunTurns p k start

-- a start that can be written has a question's run
abbrev pub IsShownBy : Program → (k : ℕ) → Layout → Question → Start → Type 0
IsShownBy p k layout question s = IsWritten layout (is_known_at p) (written_of s) × HasRunOf p k question (start_in p layout (written_of s))

-- A question is answered: by a start that shows that it is true; by a refutation; or by a log that spends the conflicts.
abbrev pub IsAnswered : Program → (k : ℕ) → Layout → Question → (conflicts : ℕ) → Answered → Type 0
IsAnswered p k layout question conflicts (Sat s) = IsShownBy p k layout question s
IsAnswered p k layout question conflicts (Refuted proof) = Refutes p k question (proof_of proof)
IsAnswered p k layout question conflicts (Spent proof) = Spends p k question conflicts (proof_of proof)

-- a refutation of a question over these bytes of the file
pub record RefutesOver (p : Program) (k : ℕ) (question : Question) (asked : ℕ → Bool) (proof : Proof) : Type 0 where
  pub refutes : Refutes p k question proof
  pub over : refutes.of_question.asked ≡ asked

-- a question is answered, where a refutation is over these bytes of the file
abbrev pub IsAnsweredOver : Program → (k : ℕ) → Layout → Question → (asked : ℕ → Bool) → (conflicts : ℕ) → Answered → Type 0
IsAnsweredOver p k layout question asked conflicts (Sat s) = IsAnswered p k layout question conflicts (Sat s)
IsAnsweredOver p k layout question asked conflicts (Refuted proof) = RefutesOver p k question asked (proof_of proof)
IsAnsweredOver p k layout question asked conflicts (Spent proof) = IsAnswered p k layout question conflicts (Spent proof)

-- it is the answer over the bytes that were added to those of literals, for every program of which the unrolled program is, and that reads memory
abbrev pub AnswersOver : UnrolledProgram → Question → (added : List ℕ) → (conflicts : ℕ) → Answered → Type 0
AnswersOver u question added conflicts a =
    (p : Program) (k : ℕ) (layout : Layout) → ReadsMemory p → IsGround p k layout u →
    IsAnsweredOver p k layout question (is_asked added u.literals) conflicts a

-- it is the answer for every program of which the unrolled program is, and that reads memory
abbrev pub Answers : UnrolledProgram → Question → (conflicts : ℕ) → Answered → Type 0
Answers u question conflicts a =
    (p : Program) (k : ℕ) (layout : Layout) → ReadsMemory p → IsGround p k layout u → IsAnswered p k layout question conflicts a

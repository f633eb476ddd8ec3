-- What is had of the reading of a model of which a question is true.
use Rattle.std.specs.Prelude.{ℕ, List}
use Rattle.machine_spec.specs.StateText.{Layout}
use Rattle.bilv_spec.specs.Run.{Program}
use Rattle.bilv_spec.specs.Questions.{Reading, IsTrue}
use Rattle.call_spec.specs.Calls.{Question}
use Rattle.term_spec.specs.Terms.{TermReading}
use Rattle.walk_spec.specs.Unrolled.{UnrolledProgram}
use Rattle.question_form.specs.Views.{unrolled_of}
use Rattle.question_form.specs.declared.questions.Passive.{Passive}
use Rattle.verdict.specs.Grounds.{IsGround}
use Rattle.model_text.specs.declared.model.Model.{Model}
use Rattle.model_verdict.specs.Readings.{IsModelled, StandsFor}
use Rattle.model_verdict.specs.Runs.{AreRunChoices}

-- the question is true of a reading of a model, for which data stand
pub record IsTrulyOf (p : Program) (layout : Layout) (k : ℕ) (question : Question) (u : UnrolledProgram) (m : Model) (y : TermReading) (r : Reading) : Type 0
  where
    pub modelled : IsModelled u layout m r
    pub stands : StandsFor u y r
    pub is_true : IsTrue p k r question

-- the choices are those of the run of each reading for which data stand, where a question is true of it
abbrev pub AreChoicesOf : Passive → TermReading → List (ℕ × ℕ) → Type 0
AreChoicesOf q y xs = (p : Program) (k : ℕ) (layout : Layout) (question : Question) (r : Reading) →
    IsGround p k layout (unrolled_of q.unrolled.now) → StandsFor (unrolled_of q.unrolled.now) y r → IsTrue p k r question → AreRunChoices p k r xs

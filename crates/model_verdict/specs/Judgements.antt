-- What the answer of an outside solver to a question of a program is judged to be.
use Rattle.std.specs.Prelude.{ℕ, List}
use Rattle.machine_spec.specs.StateText.{Layout}
use Rattle.bilv_spec.specs.Run.{Program}
use Rattle.bilv_spec.specs.Points.{Point}
use Rattle.bilv_spec.specs.Questions.{Reading, IsTrue}
use Rattle.bilv_spec.specs.Scripts.{AreNumbered}
use Rattle.call_spec.specs.Calls.{Question}
use Rattle.model_spec.specs.ModelText.{Declared, Definition, ModelFault, IsAnswer, IsModelFault}
use Rattle.model_spec.specs.Models.{AreDeclared, IsReadingOf}
use Rattle.model_text.specs.Faults.{fault_of}
use Rattle.start_value.specs.Starts.{written_of}
use Rattle.start_value.specs.declared.start.Start.{Start}
use Rattle.model_verdict.specs.Runs.{IsShown}
use Rattle.model_verdict.specs.declared.judged.End.{End}
use Rattle.model_verdict.specs.declared.judged.Judged.{Judged}
use Rattle.model_verdict.specs.declared.judged.Judged.TheVariants.{Refused, Untrue, Accepted}

-- the text is refused at a line
pub record IsRefused (p : Program) (layout : Layout) (k : ℕ) (text : List ℕ) (line : ℕ) (fault : ModelFault) : Type 0 where
  pub points : List Point
  pub declared : List Declared
  pub are_numbered : AreNumbered p k points
  pub are_declared : AreDeclared p layout points declared
  pub is_fault : IsModelFault declared text line fault

-- the text is an answer, and this its reading
pub record IsRead (p : Program) (layout : Layout) (k : ℕ) (text : List ℕ) (r : Reading) : Type 0 where
  pub points : List Point
  pub declared : List Declared
  pub definitions : List Definition
  pub are_numbered : AreNumbered p k points
  pub are_declared : AreDeclared p layout points declared
  pub is_answer : IsAnswer declared text definitions
  pub is_reading : IsReadingOf p layout points definitions r

-- the question is not true of the reading
pub record IsUntrue (p : Program) (layout : Layout) (k : ℕ) (question : Question) (text : List ℕ) : Type 0 where
  pub reading : Reading
  pub is_read : IsRead p layout k text reading
  pub untrue : ¬ IsTrue p k reading question

-- the question is true of the reading, and the start shows it
pub record IsAccepted (p : Program) (layout : Layout) (k : ℕ) (question : Question) (text : List ℕ) (end : End) (start : Start) : Type 0 where
  pub reading : Reading
  pub is_read : IsRead p layout k text reading
  pub is_true : IsTrue p k reading question
  pub shown : IsShown p layout k question reading end (written_of start)

-- the text is judged rightly
abbrev pub IsJudged : Program → Layout → (k : ℕ) → Question → (text : List ℕ) → Judged → Type 0
IsJudged p layout k question text (Refused line kind) = IsRefused p layout k text line (fault_of kind)
IsJudged p layout k question text Untrue = IsUntrue p layout k question text
IsJudged p layout k question text (Accepted end start) = IsAccepted p layout k question text end start

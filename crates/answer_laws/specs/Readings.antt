-- From a written start to a reading of which the question is true: memory that agrees with the file, and choices along the reading's run.
use Rattle.std.specs.Prelude.{ℕ, ◌≡◌, Bool}
use Rattle.bilv_spec.specs.Run.{Program, Place, Going}
use Rattle.machine_spec.specs.Endings.{Start}
use Rattle.bilv_spec.specs.Points.{is_known_at}
use Rattle.bilv_spec.specs.Questions.{Reading, IsTrue, IsTrueOver, point_of, read_run}
use Rattle.call_spec.specs.Calls.{Question}
use Rattle.bilv_spec.specs.QuestionLaws.{Follows}
use Rattle.bilv_spec.specs.Evidence.{AgreesOn}
use Rattle.machine_spec.specs.StateText.{Layout}
use Rattle.word_spec.specs.State.{Written}
use Rattle.bilv_spec.specs.Answers.{start_in}

-- the memory of a start that is written agrees with the file on all known bytes
abbrev pub WrittenAgrees : Type 0
WrittenAgrees = (p : Program) (layout : Layout) (w : Written) → AgreesOn p (is_known_at p) (start_in p layout w).state

-- A question that is true over some asked bytes of a reading whose memory agrees with the file on all known bytes is true of the reading.
abbrev pub AgreementIsEnough : Type 0
AgreementIsEnough = (p : Program) (asked : ℕ → Bool) (k : ℕ) (r : Reading) (question : Question) → AgreesOn p (is_known_at p) r.state →
    IsTrueOver p asked k r question → IsTrue p k r question

-- A start in the reading's state follows the reading if it takes, at each step of the reading's run, the choice of the point at which that run stands.
abbrev pub ChoicesFollow : Type 0
ChoicesFollow = (p : Program) (k : ℕ) (r : Reading) (start : Start) → start.state ≡ r.state →
    ((n turns : ℕ) (c : Place) → read_run p k r n ≡ Going turns n c → start.choices n ≡ r.choice (point_of turns c)) → Follows p k r start

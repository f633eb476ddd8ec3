-- What a call says of a function whose notes have invariants.
use Rattle.std.specs.Prelude.{ℕ, ◌≡◌, ◌≢◌, List, [], Option, Some, codes}
use Rattle.answer_laws.specs.Replayed.{AreBytes}
use Rattle.answer_laws.specs.Told.{AreToldTo}
use Rattle.answer_laws.specs.TwoCalls.{IsPrinted}
use Rattle.answer_spec.specs.FrameAnswers.{IsFrameFound, IsCertifiedWhole}
use Rattle.answer_spec.specs.Outcomes.{IsOutcome}
use Rattle.bilv_spec.specs.Verdict.{IsEntryState, IsStart, RunFails}
use Rattle.call_spec.specs.Framed.{StepQuestion}
use Rattle.call_spec.specs.Calls.{Answer, Budget, Evidence, Options, Surroundings}
use Rattle.command_spec.specs.Commands.{Verify}
use Rattle.frame_spec.specs.FrameVerdict.{Whole}
use Rattle.machine_spec.specs.Endings.{Start}
use Rattle.word_spec.specs.State.{State}
use Rattle.word_spec.specs.Texts.{line}

-- The files are a function with its invariants, which are among its assert lines. There is an entry state, and from each of them no run of the tables, whatever
-- its choices and however many backward transfers it makes, has an event before it exits.
pub record NeverFails (o : Options) (file text : List ℕ) : Type 0 where
  pub function : Whole
  pub found : IsFrameFound o file text function
  pub entered : (s : State) × IsEntryState function.program s
  pub never : (start : Start) → IsStart function.program start → (bound : ℕ) → ¬ RunFails function.program bound start

-- where a call over files that are told wrote that the function holds partially, with status 0, it never fails
abbrev pub InvariantsMean : Type 0
InvariantsMean =
    (s : Surroundings) (o : Options) (content : List ℕ → List ℕ) (elf notes : List ℕ) (b : Budget) (e : Evidence) → AreBytes (content elf) →
    AreToldTo s content (Verify o elf notes b) → IsOutcome s (Some (Verify o elf notes b)) 0 e → IsPrinted s (line (codes "holds partially")) →
    NeverFails o (content elf) (content notes)

-- Where notes have no invariants, no call that certifies says that the question about head states is satisfiable, of whichever frame it is asked.
abbrev pub StepIsFalse : Type 0
StepIsFalse =
    (o : Options) (file text : List ℕ) (w : Whole) → IsFrameFound o file text w → w.invariants ≡ [] → (b : Budget) (a : Answer) →
    (frame : Option (List ℕ)) → IsCertifiedWhole b frame StepQuestion w a → a.status ≢ 1

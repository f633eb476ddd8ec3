-- What may be answered to an outside solver's answer.
use Rattle.std.specs.Prelude.{ℕ, List}
use Rattle.call_spec.specs.Calls.{Answer, Budget, Options}
use Rattle.bilv_spec.specs.Files.{layout_of}
use Rattle.frame_spec.specs.FrameVerdict.{Whole, frame_of}
use Rattle.answer_spec.specs.FrameAnswers.{IsFrameFound}
use Rattle.answer_spec.specs.FrameModels.{IsEntryModelAnswer}
use Rattle.answer_laws.specs.Completeness.{AreSameButRun}

-- To one text about the entry states of a frame there is one answer, but for the start that it shows: the text has one fault, or it makes the question true, or it
-- does not.
abbrev pub OneEntryModelAnswer : Type 0
OneEntryModelAnswer =
    (o : Options) (file notes : List ℕ) (w : Whole) (rank : ℕ) (b : Budget) (text : List ℕ) (x y : Answer) → IsFrameFound o file notes w →
    IsEntryModelAnswer (frame_of w rank) (layout_of o file) b text x → IsEntryModelAnswer (frame_of w rank) (layout_of o file) b text y → AreSameButRun x y

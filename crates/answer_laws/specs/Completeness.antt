-- A whole verification has one right answer, but for the run that it prints and for a question that spends its conflicts.
use Rattle.std.specs.Prelude.{ℕ, ◌≡◌, ◌≢◌, ◌<◌, ◌↔◌, List, [], Some}
use Rattle.call_spec.specs.Outside.{Bytes, Rose, Appends}
use Rattle.bilv_spec.specs.Run.{Program}
use Rattle.bilv_spec.specs.Verdict.{Verdict, Holds, Vacuous, Fails, Unroll, IsRight}
use Rattle.bilv_spec.specs.Points.{HasMore, IsPrice}
use Rattle.call_spec.specs.Calls.{Options, Budget, Evidence, RunOf, FromHead, WithCalls, SpentOn, SpentOnFrame, SpentOnPair, Answer, plain_answer, Surroundings}
use Rattle.bilv_spec.specs.Files.{layout_of}
use Rattle.bilv_spec.specs.Answers.{IsWithin, Report, HoldsReport, VacuousReport, FailsReport, UnrollReport, PointsReport, SizeReport, IsRightReport, report_answer, report_text, status_of}
use Rattle.frame_spec.specs.FrameVerdict.{Whole}
use Rattle.notes_spec.specs.Verified.{IsAccepted, IsElfRefused, AreNotesRefusedIn, IsFound}
use Rattle.command_spec.specs.Commands.{Verify}
use Rattle.answer_spec.specs.FrameAnswers.{dialect_for, IsFrameFound, IsFrameReported}
use Rattle.answer_spec.specs.Outcomes.{IsOutcome}
use Rattle.answer_laws.specs.Replayed.{AreBytes}

-- what a program comes to within a budget, where no question spends its conflicts: too many points, a price above the size, or a verdict
pub data Finding : Type 0 where
  TooManyPoints : Finding
  TooLarge : (price : ℕ) → Finding
  HasVerdict : Verdict → Finding

-- the program comes to it
abbrev pub ComesTo : Program → Budget → Finding → Type 0
ComesTo p b TooManyPoints = HasMore p b.unroll b.points
ComesTo p b (TooLarge price) = (¬ HasMore p b.unroll b.points) × IsPrice p b.unroll price × (b.size < price)
ComesTo p b (HasVerdict v) = IsWithin p b × IsRight p b.unroll v

-- a program comes to one finding at most
abbrev pub OneFinding : Type 0
OneFinding = (p : Program) (b : Budget) (f g : Finding) → ComesTo p b f → ComesTo p b g → f ≡ g

-- the report says the finding
abbrev pub Says : Report → Finding → Type 0
Says PointsReport TooManyPoints = Unit {0}
Says SizeReport (TooLarge price) = Unit {0}
Says HoldsReport (HasVerdict Holds) = Unit {0}
Says VacuousReport (HasVerdict Vacuous) = Unit {0}
Says (FailsReport e at step) (HasVerdict Fails) = Unit {0}
Says (UnrollReport at step) (HasVerdict Unroll) = Unit {0}
Says report finding = ⊥

-- the evidence is that of a question that spent its conflicts
abbrev pub IsSpentEvidence : Evidence → Type 0
IsSpentEvidence (SpentOn kind proof) = Unit {0}
IsSpentEvidence (SpentOnFrame rank question proof) = Unit {0}
IsSpentEvidence (SpentOnPair kind proof) = Unit {0}
IsSpentEvidence other = ⊥

-- the evidence is a run or a segment, whose start the text shows
abbrev pub ShowsRun : Evidence → Type 0
ShowsRun (RunOf w) = Unit {0}
ShowsRun (FromHead w head) = Unit {0}
ShowsRun (WithCalls rank w calls) = Unit {0}
ShowsRun other = ⊥

-- the notes have invariants or contracts
abbrev pub HasFrames : Whole → Type 0
HasFrames w = w.invariants ≡ [] → w.contracts ≢ []

-- The answer to two files and options, by what they are: the refusal of the first that is refused; or the right report that says what their program comes to;
-- or, with invariants or contracts, a right report over frames that spent no question's conflicts.
pub data Answers (o : Options) (file text : List ℕ) (b : Budget) (a : Answer) : Type 0 where
  elf_is_refused : (written : List ℕ) → IsElfRefused file written → a ≡ plain_answer 4 written → Answers o file text b a
  notes_are_refused : (written : List ℕ) → IsAccepted file → AreNotesRefusedIn (dialect_for text) o file text written → a ≡ plain_answer 5 written →
      Answers o file text b a
  is_reported : (p : Program) (f : Finding) (r : Report) (e : Evidence) → IsFound o file text p → ComesTo p b f → Says r f →
      IsRightReport p (layout_of o file) b r e → a ≡ report_answer (layout_of o file) b r e → Answers o file text b a
  frames_are_reported : (w : Whole) → IsFrameFound o file text w → HasFrames w → IsFrameReported w (layout_of o file) b a →
      ¬ IsSpentEvidence a.evidence → Answers o file text b a

-- both files are told, and the counts of faults of their names did not rise
pub record AreTold (s : Surroundings) (elf notes file text : List ℕ) : Type 0 where
  pub elf_held : s.held elf ≡ Bytes file
  pub notes_held : s.held notes ≡ Bytes text
  pub elf_calm : ¬ Rose (s.shelf_before elf) (s.shelf_after elf)
  pub notes_calm : ¬ Rose (s.shelf_before notes) (s.shelf_after notes)

-- Where both files are told and read without fault, no write failed (the status is not 7, or the sink's count did not rise), the status is not that of want of
-- memory, and the evidence is not of a question that spent its conflicts, the outcome is such an answer, written whole.
abbrev pub VerifyIsComplete : Type 0
VerifyIsComplete =
    (s : Surroundings) (o : Options) (elf notes file text : List ℕ) (b : Budget) (status : ℕ) (evidence : Evidence) → AreTold s elf notes file text →
    (status ≡ 7 → ¬ Rose s.sink_before s.sink_after) → status ≢ 8 → (¬ IsSpentEvidence evidence) → IsOutcome s (Some (Verify o elf notes b)) status evidence →
    (a : Answer) × Answers o file text b a × (status ≡ a.status) × (evidence ≡ a.evidence) × Appends s.text_before a.text s.text_after

-- So a program that both files are is reported as what it comes to, and in no other way.
abbrev pub FindingIsReported : Type 0
FindingIsReported =
    (s : Surroundings) (o : Options) (elf notes file text : List ℕ) (b : Budget) (status : ℕ) (evidence : Evidence) → AreTold s elf notes file text →
    (status ≡ 7 → ¬ Rose s.sink_before s.sink_after) → status ≢ 8 → (¬ IsSpentEvidence evidence) → (p : Program) → IsFound o file text p →
    (f : Finding) → ComesTo p b f → IsOutcome s (Some (Verify o elf notes b)) status evidence →
    (r : Report) × Says r f × IsRightReport p (layout_of o file) b r evidence × (status ≡ status_of r)
    × Appends s.text_before (report_text (layout_of o file) b r evidence) s.text_after

-- The same answer but for the run, or the segment, that is shown: one status; one is shown by both or by neither; the same text where none is shown; and all the same
-- where the evidence is, so that the text is that of the start that it shows.
pub record AreSameButRun (a c : Answer) : Type 0 where
  pub status : a.status ≡ c.status
  pub shows : ShowsRun a.evidence ↔ ShowsRun c.evidence
  pub text : (¬ ShowsRun a.evidence) → a.text ≡ c.text
  pub whole : a.evidence ≡ c.evidence → a ≡ c

-- each number of the file is a byte, where the notes have invariants or contracts
abbrev pub HasBytes : Options → (file text : List ℕ) → Type 0
HasBytes o file text = (w : Whole) → IsFrameFound o file text w → HasFrames w → AreBytes file

-- two files, options and a budget have one such answer, but for the run or the segment that it shows
abbrev pub OneAnswer : Type 0
OneAnswer =
    (o : Options) (file text : List ℕ) (b : Budget) (a c : Answer) → HasBytes o file text → Answers o file text b a → Answers o file text b c → AreSameButRun a c

-- and two files and options have one program at most
abbrev pub OneProgram : Type 0
OneProgram = (o : Options) (file text : List ℕ) (p q : Program) → IsFound o file text p → IsFound o file text q → p ≡ q

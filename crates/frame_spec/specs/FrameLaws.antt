-- Laws of the runs, points and questions of frames.
use Rattle.std.specs.Prelude.{ℕ, ◌≡◌, ◌≢◌, ◌↔◌, Option, Some, None, true, false}
use Rattle.word_spec.specs.State.{State}
use Rattle.bilv_spec.specs.Verdict.{IsEntryState}
use Rattle.machine_spec.specs.Machine.{Row, IsAtPlace}
use Rattle.bilv_spec.specs.Run.{Program, Place}
use Rattle.bilv_spec.specs.Points.{file_row}
use Rattle.bilv_spec.specs.PointLaws.{HasLawfulRows, ReadsMemory}
use Rattle.frame_spec.specs.Frames.{Frame, IsContent}
use Rattle.frame_spec.specs.FrameRuns.{Start, Run, Going, Arriving, Calling, run}
use Rattle.frame_spec.specs.FrameVerdict.{IsStart, IsOrigin, RunFails, RunTurns, Verdict, Holds, Vacuous, Fails, NotInductive, Unroll, Partial, IsRight}
use Rattle.frame_spec.specs.FramePoints.{Anchor, AtEntry, AtHead, IsPoint, IsAnchor, has_heads}
use Rattle.frame_spec.specs.FrameQuestions.{Question, EntryQuestion, FailQuestion, StepQuestion, TurnQuestion, IsSatisfiable, by_file, point_of}

-- the words that a segment executes are the file's
abbrev pub SegmentsByFile : Type 0
SegmentsByFile = (f : Frame) → HasLawfulRows f.program → ReadsMemory f.program → (k : ℕ) (start : Start) →
    IsEntryState f.program start.state → IsOrigin f k start.state start.head → ((i : ℕ) → IsContent (start.given i)) → (steps : ℕ) →
    run f k start steps ≡ run (by_file f) k start steps

-- the segment that a question is about
abbrev pub HasRun : Frame → ℕ → Question → Type 0
HasRun f k EntryQuestion = (s : State) × IsEntryState f.program s
HasRun f k FailQuestion = (start : Start) × IsStart f k start × (start.head ≡ None) × RunFails f k start
HasRun f k StepQuestion = (start : Start) × IsStart f k start × (start.head ≢ None) × RunFails f k start
HasRun f k TurnQuestion = (start : Start) × IsStart f k start × RunTurns f k start

-- some reading makes a question true exactly where there is such a segment
abbrev pub QuestionsAreOfSegments : Type 0
QuestionsAreOfSegments = (f : Frame) → HasLawfulRows f.program → ReadsMemory f.program → (k : ℕ) (question : Question) →
    IsSatisfiable f k question ↔ HasRun f k question

-- the verdict by the questions: the first that is true of some reading names it
abbrev pub IsDecided : Frame → ℕ → Verdict → Type 0
IsDecided f k Vacuous = ¬ IsSatisfiable f k EntryQuestion
IsDecided f k Fails = IsSatisfiable f k FailQuestion
IsDecided f k NotInductive = (¬ IsSatisfiable f k FailQuestion) × IsSatisfiable f k StepQuestion
IsDecided f k Unroll = (¬ IsSatisfiable f k FailQuestion) × (¬ IsSatisfiable f k StepQuestion) × IsSatisfiable f k TurnQuestion
IsDecided f k Holds =
    (has_heads f ≡ false) × IsSatisfiable f k EntryQuestion
    × (¬ IsSatisfiable f k FailQuestion) × (¬ IsSatisfiable f k StepQuestion) × (¬ IsSatisfiable f k TurnQuestion)
IsDecided f k Partial =
    (has_heads f ≡ true) × IsSatisfiable f k EntryQuestion
    × (¬ IsSatisfiable f k FailQuestion) × (¬ IsSatisfiable f k StepQuestion) × (¬ IsSatisfiable f k TurnQuestion)

-- and it is the right one
abbrev pub FramesDecide : Type 0
FramesDecide = (f : Frame) → HasLawfulRows f.program → ReadsMemory f.program → (k : ℕ) (v : Verdict) → IsDecided f k v ↔ IsRight f k v

-- so that a frame has one verdict
abbrev pub OneFrameVerdict : Type 0
OneFrameVerdict = (f : Frame) → HasLawfulRows f.program → ReadsMemory f.program → (k : ℕ) (v w : Verdict) → IsRight f k v → IsRight f k w → v ≡ w

-- where rows stand: at the entry, and after each row
pub record HasPlaces (p : Program) : Type 0 where
  pub entry : IsAtPlace p.machine.narrow p.entry
  pub lengths : (a : ℕ) (row : Row) → file_row p a ≡ Some row → IsAtPlace p.machine.narrow row.length

-- the anchor of a segment
abbrev pub anchor_of : Option Place → Anchor
anchor_of None = AtEntry
anchor_of (Some c) = AtHead c.stack c.state.pc

-- where a segment of an anchor stands: at a point; where it arrives, at the first of another anchor
abbrev pub StandsAt : Frame → ℕ → Anchor → Run → Type 0
StandsAt f k anchor (Going turns n c) = IsPoint f k (point_of anchor false turns c)
StandsAt f k anchor (Calling turns n c) = IsPoint f k (point_of anchor true turns c)
StandsAt f k anchor (Arriving turns n c) = IsAnchor f k (AtHead c.stack c.state.pc)
StandsAt f k anchor r = Unit {0}

-- a segment meets points alone, and arrives at heads that have an anchor
abbrev pub SegmentsMeetPoints : Type 0
SegmentsMeetPoints = (f : Frame) → HasLawfulRows f.program → ReadsMemory f.program → HasPlaces f.program → (k : ℕ) (start : Start) →
    IsEntryState f.program start.state → IsOrigin f k start.state start.head → ((i : ℕ) → IsContent (start.given i)) → (steps : ℕ) →
    StandsAt f k (anchor_of start.head) (run f k start steps)

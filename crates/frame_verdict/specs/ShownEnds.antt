-- What the segments come to that are shown.
use Rattle.std.specs.Prelude.{ℕ, ◌≡◌, ◌≢◌, ◌-◌, Bool, true, false, List, [], Option, Some, None, map, option_map}
use Rattle.word_spec.specs.State.{State}
use Rattle.bilv_spec.specs.Run.{Program, Place}
use Rattle.bilv_spec.specs.Points.{is_kept_at}
use Rattle.machine_spec.specs.StateText.{Layout, IsWritten}
use Rattle.frame_spec.specs.Frames.{Frame, is_head}
use Rattle.frame_spec.specs.FrameFound.{Found, FoundExit, FoundEvent, FoundTurn, FoundCut, FoundBreak, FoundLeft, found}
use Rattle.frame_spec.specs.FramePoints.{Anchor, AtEntry, AtHead}
use Rattle.frame_spec.specs.FrameQuestions.{Question, EntryQuestion, FailQuestion, StepQuestion, TurnQuestion}
use Rattle.frame_spec.specs.FrameReports as reports
use Rattle.frame_spec.specs.FrameReports.{AreMade, ByEvent, ByTurn, EndsAs, IsShown, MakesContractStep, shown_start}
use Rattle.frame_spec.specs.FrameRuns as runs
use Rattle.frame_spec.specs.FrameRuns.{IsOver, run}
use Rattle.frame_spec.specs.FrameVerdict as frames
use Rattle.frame_spec.specs.FrameVerdict.{IsHeadState, IsStart, RunFails, RunTurns, Whole}
use Rattle.call_form.specs.declared.budget.Budget.{Budget}
use Rattle.start_value.specs.Starts.{written_of}
use Rattle.state_text.specs.Starts.{written_call_of, written_head_of}
use Rattle.state_text.specs.declared.start.HeadStart.{HeadStart}
use Rattle.table_run.specs.FrameEnds.{frame_found_of, frame_of, start_shown}
use Rattle.table_run.specs.MadeCalls.{AreListed}
use Rattle.table_run.specs.declared.ending.FrameEnding.{FrameEnding}
use Rattle.question_form.specs.FrameViews.{anchor_at}
use Rattle.question_form.specs.declared.unrolled.Unrolled.{Unrolled}
use Rattle.frame_rounds.specs.FrameGrounds.{shown_at}
use Rattle.frame_start.specs.declared.meaning.Segments.{Segments}
use Rattle.frame_verdict.specs.FrameFunctions.{frame_at, program_of_framed, whole_of_framed}
use Rattle.frame_verdict.specs.FrameVerdicts.{named_of, shown_with}
use Rattle.frame_verdict.specs.declared.framed.Framed.{Framed}
use Rattle.frame_verdict.specs.declared.judged.Ended.{Ended}
use Rattle.frame_verdict.specs.declared.segments.Shown.{Shown}

-- what is shown
abbrev pub shown_of : Shown → reports.Shown
shown_of s = shown_with s.start s.head s.calls.items

-- its start in a frame that steps over no contract
abbrev pub start_of : Program → (invariants : List ℕ) → Layout → Shown → runs.Start
start_of p invariants layout s = start_shown p invariants layout (written_of s.start) (option_map written_head_of s.head)

-- its start in the frame of a rank
abbrev pub begun : Whole → (rank : ℕ) → Layout → reports.Shown → runs.Start
begun w rank layout s = shown_start w (frames.frame_of w rank) layout s

-- it can be written
abbrev pub IsShownAt : Whole → (rank : ℕ) → Layout → reports.Shown → Type 0
IsShownAt w rank layout s = IsShown w (frames.frame_of w rank) layout s

-- a head state can be written, at a head
abbrev pub IsHeadWritten : Program → (invariants : List ℕ) → Layout → Option HeadStart → Type 0
IsHeadWritten p invariants layout None = Unit {0}
IsHeadWritten p invariants layout (Some h) = IsWritten layout (is_kept_at p) (written_of h.start) × (is_head (frame_of p invariants) h.at ≡ true)

-- where a segment begins is a head state for the state at entry, if it is not the entry
abbrev pub IsHeadFor : Frame → (entry : State) → Option Place → Type 0
IsHeadFor f entry None = Unit {0}
IsHeadFor f entry (Some c) = IsHeadState f entry c.state

-- what the segment of a start comes to in some steps; none where it does not begin in a head state
abbrev pub IsEndOf : Frame → (k last : ℕ) → runs.Start → Option FrameEnding → Type 0
IsEndOf f k last start None = ¬ IsHeadFor f start.state start.head
IsEndOf f k last start (Some e) = IsHeadFor f start.state start.head × (frame_found_of e ≡ found f (Some k) start last)

-- an event or one backward transfer too many, if that is found of a run
abbrev pub named_in : Found → Option reports.Named
named_in (FoundExit at step) = None
named_in (FoundEvent e at step) = Some (ByEvent e at step)
named_in (FoundTurn at step) = Some (ByTurn at step)
named_in (FoundCut at step) = None
named_in (FoundBreak line at step) = None
named_in (FoundLeft at step) = None

-- What is told of a segment is the segment: its run ends so, and makes the contract steps that are told.
pub record IsToldAs (w : Whole) (rank k points : ℕ) (layout : Layout) (s : reports.Shown) (e : Ended) : Type 0 where
  pub start : (shown_of e.shown).start ≡ s.start
  pub head : (shown_of e.shown).head ≡ s.head
  pub shown : IsShownAt w rank layout (shown_of e.shown)
  pub same : run (frames.frame_of w rank) k (begun w rank layout (shown_of e.shown)) points ≡ run (frames.frame_of w rank) k (begun w rank layout s) points
  pub made : AreMade (frames.frame_of w rank) k (begun w rank layout (shown_of e.shown)) (shown_of e.shown).calls
  pub called : e.called ≡ true → MakesContractStep (frames.frame_of w rank) k (begun w rank layout (shown_of e.shown))
  pub uncalled : e.called ≡ false → ¬ MakesContractStep (frames.frame_of w rank) k (begun w rank layout (shown_of e.shown))

-- what the segment that is shown comes to in so many steps, if it begins in a head state, and ends by an event or one backward transfer too many
abbrev pub IsCame : Whole → (rank k points : ℕ) → Layout → reports.Shown → Option Ended → Type 0
IsCame w rank k points layout s None =
    IsHeadFor (frames.frame_of w rank) (begun w rank layout s).state (begun w rank layout s).head →
    named_in (found (frames.frame_of w rank) (Some k) (begun w rank layout s) (points - 1)) ≡ None
IsCame w rank k points layout s (Some e) =
    IsHeadFor (frames.frame_of w rank) (begun w rank layout s).state (begun w rank layout s).head
    × (named_in (found (frames.frame_of w rank) (Some k) (begun w rank layout s) (points - 1)) ≡ Some (named_of e.ending))
    × IsToldAs w rank k points layout s e

-- A segment that is shown of the frame of a rank: it can be written; with contracts it begins at the entry, and each contract step that it makes is listed, and
-- without them none is; and it has ended after as many steps as there may be points.
pub record CanEnd {M I S : _} {d : _} {v : _} (form : Layout) (x : Framed M I S d v) (b : Budget) (rank : ℕ) (s : Shown) : Type 0 where
  pub shown : IsShownAt (whole_of_framed x) rank form (shown_of s)
  pub head : IsHeadWritten (program_of_framed x) x.invariants.now form s.head
  pub alone : x.contracts.now ≢ [] → s.head ≡ None
  pub none : x.contracts.now ≡ [] → s.calls.items ≡ []
  pub listed : x.contracts.now ≢ [] → AreListed (frame_at x rank) b.unroll (begun (whole_of_framed x) rank form (shown_of s))
      (map written_call_of s.calls.items) b.points
  pub over : IsHeadFor (frame_at x rank) (begun (whole_of_framed x) rank form (shown_of s)).state (begun (whole_of_framed x) rank form (shown_of s)).head →
      IsOver (run (frame_at x rank) b.unroll (begun (whole_of_framed x) rank form (shown_of s)) b.points)

-- a question asks for segments of this anchor
abbrev pub wants_anchor : Question → Anchor → Bool
wants_anchor EntryQuestion a = false
wants_anchor FailQuestion AtEntry = true
wants_anchor FailQuestion (AtHead stack a) = false
wants_anchor StepQuestion AtEntry = false
wants_anchor StepQuestion (AtHead stack a) = true
wants_anchor TurnQuestion a = true

-- and for this end
abbrev pub is_end : Question → reports.Named → Bool
is_end EntryQuestion n = false
is_end FailQuestion (ByEvent e at step) = true
is_end FailQuestion (ByTurn at step) = false
is_end StepQuestion (ByEvent e at step) = true
is_end StepQuestion (ByTurn at step) = false
is_end TurnQuestion (ByEvent e at step) = false
is_end TurnQuestion (ByTurn at step) = true

-- the run ends as it asks
abbrev pub Ends : Question → Frame → (k : ℕ) → runs.Start → Type 0
Ends EntryQuestion f k start = ⊥
Ends FailQuestion f k start = RunFails f k start
Ends StepQuestion f k start = RunFails f k start
Ends TurnQuestion f k start = RunTurns f k start

-- what is shown of the root of a number is a start whose run ends as a question asks
pub record EndsAsAsked (w : Whole) (rank k : ℕ) (layout : Layout) (question : Question) (u : Unrolled) (s : Segments) (i : ℕ) : Type 0 where
  pub wants : wants_anchor question (anchor_at u i) ≡ true
  pub start : IsStart (frames.frame_of w rank) k (begun w rank layout (shown_at u s i))
  pub ends : Ends question (frames.frame_of w rank) k (begun w rank layout (shown_at u s i))

-- the head state of what is shown, for a question
abbrev pub HasHead : Question → Option HeadStart → Type 0
HasHead EntryQuestion o = ⊥
HasHead FailQuestion o = o ≡ None
HasHead StepQuestion o = o ≢ None
HasHead TurnQuestion o = Unit {0}

-- a start that is shown, with its contract steps, and its end, which is as a question asks
pub record IsEnded (w : Whole) (rank k : ℕ) (layout : Layout) (question : Question) (e : Ended) : Type 0 where
  pub shown : IsShownAt w rank layout (shown_of e.shown)
  pub head : HasHead question e.shown.head
  pub start : IsStart (frames.frame_of w rank) k (begun w rank layout (shown_of e.shown))
  pub ends : EndsAs (frames.frame_of w rank) k (begun w rank layout (shown_of e.shown)) (named_of e.ending)
  pub asked : is_end question (named_of e.ending) ≡ true
  pub made : AreMade (frames.frame_of w rank) k (begun w rank layout (shown_of e.shown)) (shown_of e.shown).calls
  pub called : e.called ≡ true → MakesContractStep (frames.frame_of w rank) k (begun w rank layout (shown_of e.shown))
  pub uncalled : e.called ≡ false → ¬ MakesContractStep (frames.frame_of w rank) k (begun w rank layout (shown_of e.shown))

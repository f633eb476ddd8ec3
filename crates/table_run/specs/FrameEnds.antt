-- Frames of the code, and what their steps and runs come to.
use Rattle.std.specs.Prelude.{ℕ, ◌≡◌, ◌<◌, ◌^◌, true, List, [], Option, Some}
use Rattle.word_spec.specs.Memory.{byte_in}
use Rattle.word_spec.specs.State.{State, Written}
use Rattle.machine_spec.specs.StateText.{Layout}
use Rattle.bilv_spec.specs.Elf.{Cell, kept}
use Rattle.bilv_spec.specs.Run.{Program, Place}
use Rattle.bilv_spec.specs.Reports as tables
use Rattle.frame_spec.specs.Frames as frames
use Rattle.frame_spec.specs.Frames.{Content, Frame}
use Rattle.frame_spec.specs.FrameRuns as runs
use Rattle.frame_spec.specs.FrameRuns.{FrameStep, Start}
use Rattle.frame_spec.specs.FrameVerdict.{Whole, entry_frame}
use Rattle.frame_spec.specs.FrameReports.{WrittenHead, shown_start}
use Rattle.frame_spec.specs.FrameFound.{Found, FoundExit, FoundEvent, FoundTurn, FoundCut, FoundBreak, FoundLeft}
use Rattle.state_text.specs.Starts.{frame_event_of}
use Rattle.table_run.specs.declared.ending.FrameEnding.{FrameEnding}
use Rattle.table_run.specs.declared.ending.FrameEnding.TheVariants as ending
use Rattle.table_run.specs.declared.ending.FrameStepEnd.{FrameStepEnd}
use Rattle.table_run.specs.declared.ending.FrameStepEnd.TheVariants as end

-- a program with the numbers of those assert lines that are invariants, and its frame, whose runs are cut at its heads
abbrev pub whole_of : Program → List ℕ → Whole
whole_of p invariants = record { program = p; invariants = invariants; contracts = [] }

abbrev pub frame_of : Program → List ℕ → Frame
frame_of p invariants = entry_frame (whole_of p invariants)

-- a step's end, with the state and the stack that it leaves
abbrev pub IsFrameStepEnd : FrameStepEnd → State → List ℕ → FrameStep → Type 0
IsFrameStepEnd (end.Halts e) state stack step = step ≡ runs.Halts (frame_event_of e)
IsFrameStepEnd end.GoesTo state stack step = step ≡ runs.GoesTo (record { state = state; stack = stack })
IsFrameStepEnd end.Reaches state stack step = step ≡ runs.Reaches (record { state = state; stack = stack })
IsFrameStepEnd end.Leaves state stack step = step ≡ runs.Leaves state

-- an ending
abbrev pub frame_found_of : FrameEnding → Found
frame_found_of (ending.Exit at step) = FoundExit at step
frame_found_of (ending.Failed e at step) = FoundEvent (frame_event_of e) at step
frame_found_of (ending.Turned at step) = FoundTurn at step
frame_found_of (ending.Cut at step) = FoundCut at step
frame_found_of (ending.Left at step) = FoundLeft at step

-- what is found of a run of the tables
abbrev pub as_found : tables.Found → Found
as_found (tables.FoundExit at step) = FoundExit at step
as_found (tables.FoundEvent e at step) = FoundEvent (frames.OfStep e) at step
as_found (tables.FoundTurn at step) = FoundTurn at step
as_found (tables.FoundLeft at step) = FoundLeft at step

-- a run of the tables is found to come to this
abbrev pub IsOfTables : Found → Type 0
IsOfTables (FoundEvent (frames.OfStep e) at step) = Unit {0}
IsOfTables (FoundEvent e at step) = ⊥
IsOfTables (FoundCut at step) = ⊥
IsOfTables (FoundBreak line at step) = ⊥
IsOfTables other = Unit {0}

-- and it is this
abbrev pub of_tables : Found → tables.Found
of_tables (FoundExit at step) = tables.FoundExit at step
of_tables (FoundEvent (frames.OfStep e) at step) = tables.FoundEvent e at step
of_tables (FoundEvent e at step) = tables.FoundLeft at step
of_tables (FoundTurn at step) = tables.FoundTurn at step
of_tables (FoundCut at step) = tables.FoundLeft at step
of_tables (FoundBreak line at step) = tables.FoundLeft at step
of_tables (FoundLeft at step) = tables.FoundLeft at step

-- a start of a segment
abbrev pub start_by : State → List (ℕ × ℕ) → Option Place → (ℕ → Content) → Start
start_by entry choices head given = record { state = entry; head = head; choices = byte_in choices; given = given }

-- the segment from an entry state with choices, and from a place if there is one, begins at a place that is no head's arrival
abbrev pub Begins : Frame → State → Option Place → Place → Type 0
Begins f entry head c = runs.begins f entry head ≡ runs.Going 0 0 c

-- a state has the bytes of the file that are kept
abbrev pub HasKept : Program → State → Type 0
HasKept p s = (a : ℕ) (c : Cell) → a < 2 ^ 32 → p.loaded a ≡ Some c → kept c ≡ true → s.mem a ≡ c.byte

-- the start of a segment that is shown: the entry's start and, if there is one, the head's
abbrev pub start_shown : Program → (invariants : List ℕ) → Layout → Written → Option WrittenHead → Start
start_shown p invariants layout w head =
    shown_start (whole_of p invariants) (frame_of p invariants) layout (record { start = w; head = head; calls = [] })

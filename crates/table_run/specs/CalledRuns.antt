-- Runs of frames that step over contracts as the code has them, and what they come to.
use Rattle.std.specs.Prelude.{ℕ, ◌≡◌, ◌+◌, List, [], Option, Some, None, map}
use Rattle.word_spec.specs.Memory.{byte_in}
use Rattle.word_spec.specs.State.{State, Written}
use Rattle.machine_spec.specs.Machine.{Machine}
use Rattle.machine_spec.specs.StateText.{Layout}
use Rattle.bilv_spec.specs.Files as files
use Rattle.bilv_spec.specs.Notes.{At}
use Rattle.bilv_spec.specs.Run.{Program}
use Rattle.frame_spec.specs.Frames.{Contract, Frame, contract_at}
use Rattle.frame_spec.specs.FrameRuns.{Start}
use Rattle.frame_spec.specs.FrameFound.{Found, FoundExit, FoundEvent, FoundTurn, FoundBreak, FoundLeft, found_within}
use Rattle.frame_spec.specs.FrameVerdict as verdict
use Rattle.frame_spec.specs.FrameVerdict.{Whole}
use Rattle.frame_spec.specs.FrameReports.{WrittenCall, gifts, shown_start}
use Rattle.frame_texts_spec.specs.FrameTexts.{first_of}
use Rattle.frame_texts_spec.specs.CallReplays.{BlockCause, WrongAt, BreaksLine, block_after, first_wrong, has_called}
use Rattle.notes_value.specs.FrameViews.{contract_of}
use Rattle.table_run.specs.CalledFrames.{called_event_of, changed_by}
use Rattle.program_value.specs.declared.frame.RankedFrame.{RankedFrame}
use Rattle.program_value.specs.Programs.{program_of}
use Rattle.table_run.specs.declared.ending.CalledEnding.{CalledEnding}
use Rattle.table_run.specs.declared.ending.CalledEnding.TheVariants as ending
use Rattle.table_run.specs.declared.ending.CalledRun.{CalledRun}
use Rattle.table_run.specs.declared.ending.CalledStepEnd.{CalledStepEnd}
use Rattle.table_run.specs.declared.ending.CalledStepEnd.TheVariants as end

-- ---- frames

-- the program of a frame's file, with its contracts by their ranks; and the frame of its rank
abbrev pub whole_in : {M I S : _} {m : _} {v : _} → RankedFrame M I S m v → Whole
whole_in f = record {
  program = program_of f.program;
  invariants = [];
  contracts = map contract_of f.contracts.now;
}

abbrev pub frame_of_rank : {M I S : _} {m : _} {v : _} → RankedFrame M I S m v → Frame
frame_of_rank f = verdict.frame_of (whole_in f) f.rank

-- the start that is shown: that of an entry state, with what contract steps are given
abbrev pub start_called : {M I S : _} {m : _} {v : _} → Layout → RankedFrame M I S m v → Written → List WrittenCall → Start
start_called form f w calls = shown_start (whole_in f) (frame_of_rank f) form (record { start = w; head = None; calls = calls })

-- ---- starts

abbrev pub called_start : State → List (ℕ × ℕ) → (registers : ℕ → List ℕ) → List WrittenCall → Start
called_start entry choices registers calls = record { state = entry; head = None; choices = byte_in choices; given = gifts registers calls }

-- these are the registers that the contract of an address may change, for each that is stepped over
abbrev pub AreChanged : (registers : ℕ → List ℕ) → (stepped : List Contract) → Type 0
AreChanged registers stepped = (at : ℕ) (x : Contract) → contract_at stepped at ≡ Some x → registers at ≡ changed_by x

-- ---- endings

-- the first block that is wrong, in the steps up to the last one and after them
abbrev pub cause_within : Frame → (k : ℕ) → Start → List WrittenCall → (last : ℕ) → Option BlockCause
cause_within f k start calls last = first_of (first_wrong f k start calls (last + 1)) (block_after calls last)

-- the cause that an ending has, if it is one of a block
abbrev pub cause_of : CalledEnding → Option BlockCause
cause_of (ending.NoCall step) = Some (WrongAt step)
cause_of (ending.NotGiven line at step) = Some (BreaksLine line)
cause_of other = None

-- An ending is what is found of the run; of a run whose block is not its step's, nothing is said.
abbrev pub IsFoundAs : CalledEnding → Found → Type 0
IsFoundAs (ending.Exit at step) x = x ≡ FoundExit at step
IsFoundAs (ending.Failed e at step) x = x ≡ FoundEvent (called_event_of e) at step
IsFoundAs (ending.Turned at step) x = x ≡ FoundTurn at step
IsFoundAs (ending.Left at step) x = x ≡ FoundLeft at step
IsFoundAs (ending.NoCall step) x = Unit {0}
IsFoundAs (ending.NotGiven line at step) x = x ≡ FoundBreak line at step

-- what a run of the code says of the run from a start, in the steps 0 to last
pub record IsRun (f : Frame) (k : ℕ) (start : Start) (calls : List WrittenCall) (last : ℕ) (run : CalledRun) : Type 0 where
  pub cause : cause_of run.ending ≡ cause_within f k start calls last
  pub found : IsFoundAs run.ending (found_within f k start last)
  pub called : cause_of run.ending ≡ None → run.called ≡ has_called f k start (last + 1)

-- an ending, or that of the first block after it
abbrev pub IsEnded : Option BlockCause → CalledEnding → CalledEnding → Type 0
IsEnded None e other = other ≡ e
IsEnded (Some (WrongAt step)) e other = other ≡ ending.NoCall step
IsEnded (Some (BreaksLine line)) e other = ⊥

-- that of a step after which the run does not go on
abbrev pub IsLast : CalledStepEnd → (at step : ℕ) → (after : Option BlockCause) → CalledEnding → Type 0
IsLast (end.Halts e) at step after other = IsEnded after (ending.Failed e at step) other
IsLast end.Leaves at step after other = IsEnded after (ending.Exit at step) other
IsLast (end.Breaks line) at step after other = other ≡ ending.NotGiven line at step
IsLast end.NoCall at step after other = other ≡ ending.NoCall step
IsLast end.GoesTo at step after other = ⊥
IsLast end.Calls at step after other = ⊥

-- ---- entry states

-- a program of a file without notes, of whose bytes the kept ones alone are known
abbrev pub bare_program : Machine → List ℕ → Program
bare_program m file =
    files.program_of m file (record { entry = At 0; requires = []; ensures = []; asserts = []; targets = []; fixed = [] }) 0

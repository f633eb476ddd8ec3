-- Runs of frames whose steps are seen.
use Rattle.std.specs.Prelude.{ℕ, ◌≡◌, Some, None}
use Rattle.word_spec.specs.State.{State}
use Rattle.machine_spec.specs.StateText.{Layout}
use Rattle.frame_spec.specs.Frames.{Frame}
use Rattle.frame_spec.specs.FrameRuns.{Start, run}
use Rattle.trace_spec.specs.Seen.{left_of, seen_steps}
use Rattle.table_run.specs.CalledFrames.{IsSeenAs}
use Rattle.table_run.specs.CalledRuns.{cause_of}
use Rattle.table_run.specs.Watching.{HasSeen}
use Rattle.table_run.specs.declared.ending.CalledEnding.{CalledEnding}
use Rattle.table_run.specs.declared.ending.CalledEnding.TheVariants as ending
use Rattle.table_run.specs.declared.ending.FrameEnding.{FrameEnding}
use Rattle.table_run.specs.declared.ending.FrameEnding.TheVariants as frame
use Rattle.table_run.specs.declared.observers.Observer.{Observer}

-- the number of the last step, where it has one
abbrev pub step_in : CalledEnding → ℕ
step_in (ending.Exit at step) = step
step_in (ending.Failed e at step) = step
step_in (ending.Turned at step) = step
step_in (ending.Left at step) = step
step_in (ending.NoCall step) = step
step_in (ending.NotGiven line at step) = step

-- the state is the one that the last step leaves, but for bytes that no machine sees
abbrev pub IsLeftIn : Frame → (k : ℕ) → Start → CalledEnding → State → Type 0
IsLeftIn f k start e now = (s : State) → left_of f start (run f k start (step_in e)) ≡ Some s → IsSeenAs s now

-- an observer has seen the steps of a run, at most so many, and the state is the one that the last of them leaves, unless a block is not its step's
pub record IsWatchedRight (f : Frame) (form : Layout) (k : ℕ) (start : Start) (count : ℕ) (e : CalledEnding) (o : Observer) (now : State) : Type 0 where
  pub seen : HasSeen o (seen_steps f form k start count)
  pub left : IsLeftIn f k start e now

abbrev pub IsWatched : Frame → Layout → (k : ℕ) → Start → (count : ℕ) → CalledEnding → Observer → State → Type 0
IsWatched f form k start count e o now = cause_of e ≡ None → IsWatchedRight f form k start count e o now

-- so for a run that is cut at heads, whose states are the run's
abbrev pub frame_step_in : FrameEnding → ℕ
frame_step_in (frame.Exit at step) = step
frame_step_in (frame.Failed e at step) = step
frame_step_in (frame.Turned at step) = step
frame_step_in (frame.Cut at step) = step
frame_step_in (frame.Left at step) = step

abbrev pub IsLeftAt : Frame → (k : ℕ) → Start → FrameEnding → State → Type 0
IsLeftAt f k start e now = (s : State) → left_of f start (run f k start (frame_step_in e)) ≡ Some s → s ≡ now

pub record IsFrameWatched (f : Frame) (form : Layout) (k : ℕ) (start : Start) (count : ℕ) (e : FrameEnding) (o : Observer) (now : State) : Type 0 where
  pub seen : HasSeen o (seen_steps f form k start count)
  pub left : IsLeftAt f k start e now

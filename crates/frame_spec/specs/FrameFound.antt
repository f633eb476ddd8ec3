-- What a run of a frame is found to come to in a bounded number of steps.
use Rattle.std.specs.Prelude.{ℕ, ◌+◌, Option}
use Rattle.bilv_spec.specs.Reports as tables
use Rattle.bilv_spec.specs.Reports.{turns_within}
use Rattle.frame_spec.specs.Frames.{Frame, FrameEvent, OfStep}
use Rattle.frame_spec.specs.FrameRuns.{Start, Run, Going, Arriving, Calling, Exited, Failed, Turned, Cut, Broken, run}

-- The exit, an event, one backward transfer too many, the arrival at a head, a contract step that is no run, or nothing: the steps were made, and the run would
-- go on. Each has the address and the number of the last step that was made.
pub data Found : Type 0 where
  FoundExit : (at step : ℕ) → Found
  FoundEvent : FrameEvent → (at step : ℕ) → Found
  FoundTurn : (at step : ℕ) → Found
  FoundCut : (at step : ℕ) → Found
  FoundBreak : (line at step : ℕ) → Found
  FoundLeft : (at step : ℕ) → Found

-- the address and the number of the step that a run is to make; a run that has ended makes none
abbrev pub found_going : Run → Found
found_going (Going turns n c) = FoundLeft c.state.pc n
found_going (Arriving turns n c) = FoundLeft c.state.pc n
found_going (Calling turns n c) = FoundLeft c.state.pc n
found_going (Exited at n) = FoundExit at n
found_going (Failed e at n) = FoundEvent e at n
found_going (Turned at n) = FoundTurn at n
found_going (Cut at n) = FoundCut at n
found_going (Broken line at n) = FoundBreak line at n

-- what is found by the run before its last step, and behind it
abbrev pub found_by : (before behind : Run) → Found
found_by before (Going turns n c) = found_going before
found_by before (Arriving turns n c) = found_going before
found_by before (Calling turns n c) = found_going before
found_by before (Exited at n) = FoundExit at n
found_by before (Failed e at n) = FoundEvent e at n
found_by before (Turned at n) = FoundTurn at n
found_by before (Cut at n) = FoundCut at n
found_by before (Broken line at n) = FoundBreak line at n

-- what the run from a start comes to in the steps 0 to last, for at most k backward transfers
abbrev pub found_within : Frame → (k : ℕ) → Start → (last : ℕ) → Found
found_within f k start last = found_by (run f k start last) (run f k start (last + 1))

-- and for a bound on backward transfers or without one
abbrev pub found : Frame → Option ℕ → Start → (last : ℕ) → Found
found f bound start last = found_within f (turns_within last bound) start last

-- what a run of the tables is found to come to, as of a run of a frame
abbrev pub as_found : tables.Found → Found
as_found (tables.FoundExit at step) = FoundExit at step
as_found (tables.FoundEvent e at step) = FoundEvent (OfStep e) at step
as_found (tables.FoundTurn at step) = FoundTurn at step
as_found (tables.FoundLeft at step) = FoundLeft at step

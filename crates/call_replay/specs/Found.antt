-- What a run of the code comes to, as it is found.
use Rattle.std.specs.Prelude.{◌≡◌, false, None}
use Rattle.frame_spec.specs.FrameFound.{Found, FoundExit, FoundEvent, FoundTurn, FoundBreak, FoundLeft}
use Rattle.frame_texts_spec.specs.CallReplays.{Outcome}
use Rattle.table_run.specs.CalledFrames.{called_event_of}
use Rattle.table_run.specs.CalledRuns.{IsFoundAs, cause_of}
use Rattle.table_run.specs.declared.ending.CalledEnding.{CalledEnding}
use Rattle.table_run.specs.declared.ending.CalledEnding.TheVariants as ending
use Rattle.table_run.specs.declared.ending.CalledRun.{CalledRun}

-- what is found; of a block at the wrong step nothing is
abbrev pub called_found : CalledEnding → Found
called_found (ending.Exit at step) = FoundExit at step
called_found (ending.Failed e at step) = FoundEvent (called_event_of e) at step
called_found (ending.Turned at step) = FoundTurn at step
called_found (ending.Left at step) = FoundLeft at step
called_found (ending.NoCall step) = FoundLeft 0 step
called_found (ending.NotGiven line at step) = FoundBreak line at step

-- a run is what the run of a report comes to
pub record IsOutcome (run : CalledRun) (o : Outcome) : Type 0 where
  pub wrong : cause_of run.ending ≡ o.wrong
  pub called : cause_of run.ending ≡ None → run.called ≡ o.called
  pub entry : o.from_head ≡ false
  pub found : IsFoundAs run.ending o.found

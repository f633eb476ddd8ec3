use Rattle.std.proofs.Common.{ℕ, ◌≤◌, ◌<◌, ◌-◌, List, [], map}
use Rattle.std.specs.Prelude.{reverse}
use Rattle.notes_value.specs.FrameViews.{contract_of}
use Rattle.state_text.specs.Starts.{written_call_of}
use Rattle.program_value.specs.Programs.{program_of}
use Rattle.table_run.specs.CalledFrames.{IsStanding, frame_in}
use Rattle.table_run.specs.CalledRuns.{AreChanged, called_start}
use Rattle.trace_spec.specs.Seen.{seen_steps}
use Rattle.table_run.specs.Watching.{HasSeen}
use Rattle.table_run.proofs.CalledRuns.{IsRunning}
use Rattle.table_run.proofs.called.follow.Given as goal

abbrev pub invariant-loop-stack : goal.invariant-loop-stack
invariant-loop-stack g l = record {
  few : l.turns ≤ l.n;
  within : l.n < l.limits.steps;
  stands : IsStanding l.stand (map contract_of l.frame.stepped.now) (g.M.State.View.view l.state) l.stack.items;
  seen : (registers : ℕ → List ℕ) → AreChanged registers (frame_in l.frame).stepped → HasSeen l.fn.seen [] →
      HasSeen l.seen (seen_steps (frame_in l.frame) g.M.Machine.form l.limits.turns
      (called_start (g.M.State.View.view l.entry) l.choices registers (map written_call_of l.calls)) l.n);
  run : (registers : ℕ → List ℕ) → AreChanged registers (frame_in l.frame).stepped →
      IsRunning (frame_in l.frame) l.limits.turns
      (called_start (g.M.State.View.view l.entry) l.choices registers (map written_call_of l.calls)) (map written_call_of l.calls)
      (program_of l.frame.program) l.stand l.turns l.n l.called (g.M.State.View.view l.state) (reverse l.stack.items);
}

abbrev pub decreases-loop-stack : goal.decreases-loop-stack
decreases-loop-stack g l = l.limits.steps - l.n

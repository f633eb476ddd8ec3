use Rattle.std.proofs.Common.{◌≡◌, ℕ, ◌≤◌, ◌<◌, ◌-◌, []}
use Rattle.trace_spec.specs.Seen.{seen_steps}
use Rattle.table_run.specs.Watching.{HasSeen}
use Rattle.std.specs.Prelude.{Option, reverse}
use Rattle.bilv_spec.specs.Run.{Place}
use Rattle.frame_spec.specs.Frames.{Content}
use Rattle.frame_spec.specs.FrameRuns.{run, Going}
use Rattle.program_value.specs.Programs.{program_of}
use Rattle.table_run.specs.FrameEnds.{Begins, frame_of, start_by}
use Rattle.table_run.proofs.runs.follow.Given as goal

abbrev pub invariant-loop-stack : goal.invariant-loop-stack
invariant-loop-stack g l = record {
  few : l.turns ≤ l.n;
  within : l.n < l.limits.steps;
  seen : (head : Option Place) (given : ℕ → Content) → HasSeen l.fn.seen [] →
      Begins (frame_of (program_of l.p) l.invariants) (g.M.State.View.view l.entry) head
      (record { state = g.M.State.View.view l.fn.state; stack = reverse l.fn.stack.items }) →
      HasSeen l.seen (seen_steps (frame_of (program_of l.p) l.invariants) g.M.Machine.form l.limits.turns
      (start_by (g.M.State.View.view l.entry) l.choices head given) l.n);
  run : (head : Option Place) (given : ℕ → Content) →
      Begins (frame_of (program_of l.p) l.invariants) (g.M.State.View.view l.entry) head
      (record { state = g.M.State.View.view l.fn.state; stack = reverse l.fn.stack.items }) →
      run (frame_of (program_of l.p) l.invariants) l.limits.turns (start_by (g.M.State.View.view l.entry) l.choices head given) l.n
      ≡ Going l.turns l.n (record { state = g.M.State.View.view l.state; stack = reverse l.stack.items });
}

abbrev pub decreases-loop-stack : goal.decreases-loop-stack
decreases-loop-stack g l = l.limits.steps - l.n

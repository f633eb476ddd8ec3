use Rattle.std.proofs.Common.{◌≤◌, ◌<◌, ◌-◌, []}
use Rattle.std.specs.Prelude.{reverse}
use Rattle.word_spec.specs.Memory.{byte_in}
use Rattle.bilv_spec.specs.Questions.{Reading}
use Rattle.model_spec.specs.Models.{all_reads}
use Rattle.program_value.specs.Programs.{program_of}
use Rattle.table_run.specs.Traces.{IsOver, TakesChoices, IsRunAt, IsReadSet}
use Rattle.table_run.proofs.TracedRuns.{IsRunning}
use Rattle.table_run.proofs.tracing.follow_model.Given as goal

abbrev pub invariant-loop-stack : goal.invariant-loop-stack
invariant-loop-stack g l = record {
  few : l.turns ≤ l.n;
  within : l.n < l.limits.steps;
  run :
      (r : Reading) → IsOver (program_of l.p) l.model.fill l.model.bytes.now r.state.mem →
      TakesChoices (program_of l.p) l.limits.turns r (byte_in l.choices) →
      IsRunAt (program_of l.p) r.state l.fn.t.met (g.M.State.View.view l.fn.t.entry) (g.M.State.View.view l.fn.t.state) []
      (record { state = r.state; stack = [] }) →
      IsReadSet (program_of l.p) (all_reads (program_of l.p) l.limits.turns r 0) l.fn.t.read →
      IsRunning (program_of l.p) l.limits.turns r l.t.met (g.M.State.View.view l.t.entry) (g.M.State.View.view l.t.state)
      (reverse l.stack.items) l.t.read l.turns l.n;
}

abbrev pub decreases-loop-stack : goal.decreases-loop-stack
decreases-loop-stack g l = l.limits.steps - l.n

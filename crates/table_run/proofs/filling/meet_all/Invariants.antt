use Rattle.std.proofs.Common.{◌≡◌, ℕ, ◌<◌, get_or, true}
use Rattle.program_value.specs.Programs.{program_of}
use Rattle.table_run.specs.Traces.{is_met, IsFuller}
use Rattle.table_run.proofs.filling.meet_all.Given as goal

abbrev pub invariant-loop-a : goal.invariant-loop-a
invariant-loop-a g l = record {
  fuller : IsFuller (program_of l.p) l.model.fill l.model.bytes.now l.fn.t.met l.t.met
      (g.M.State.View.view l.fn.t.entry) (g.M.State.View.view l.t.entry) (g.M.State.View.view l.fn.t.state) (g.M.State.View.view l.t.state);
  met : (k : ℕ) → k < l.a-index → is_met (program_of l.p) l.t.met (get_or l.places k 0) ≡ true;
  read : l.t.read ≡ l.fn.t.read;
}

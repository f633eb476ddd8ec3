use Rattle.std.proofs.Common.{◌≡◌, ◌-◌, ◌^◌, length}
use Rattle.program_value.specs.Programs.{program_of}
use Rattle.table_run.specs.Traces.{IsFuller}
use Rattle.table_run.proofs.filling.settle.Given as goal

abbrev pub invariant-settling : goal.invariant-settling
invariant-settling g l = record {
  fuller : IsFuller (program_of l.p) l.model.fill l.model.bytes.now l.fn.t.met l.t.met
      (g.M.State.View.view l.fn.t.entry) (g.M.State.View.view l.t.entry) (g.M.State.View.view l.fn.t.state) (g.M.State.View.view l.t.state);
  read : l.t.read ≡ l.fn.t.read;
}

abbrev pub decreases-settling : goal.decreases-settling
decreases-settling g l = 2 ^ 63 - length l.t.met.keys

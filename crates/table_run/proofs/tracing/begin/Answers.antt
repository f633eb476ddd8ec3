use Rattle.start_value.specs.Starts.{written_of}
use Rattle.program_value.specs.Programs.{program_of}
use Rattle.table_run.proofs.Fillings.{none_met}
use Rattle.table_run.proofs.TracedRuns.{begun_at}
use Rattle.table_run.proofs.tracing.begin.Goals as goal

pub returns-clause-begun : goal.returns-clause-begun
returns-clause-begun g c fill bytes s is =
    begun_at (program_of c.args.p.now) g.M.Machine.form (written_of c.args.start.now) fill bytes c.in_ok-memory.memory.entries
    c.new.result (g.M.State.View.view c.in_ok-entry.entry) (g.M.State.View.view c.make-state.result) s is c.make-state.ensures.view c.in_ok-entry.ensures
    c.in_ok-memory.ensures.bytes (none_met (program_of c.args.p.now) c.new.result c.new.ensures.empty)

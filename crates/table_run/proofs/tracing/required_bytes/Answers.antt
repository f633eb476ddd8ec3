use Rattle.std.proofs.Common.{[]}
use Rattle.program_value.specs.Programs.{program_of}
use Rattle.model_spec.specs.Models.{all_reads}
use Rattle.table_run.proofs.Listings.{listed_all}
use Rattle.table_run.proofs.TracedRuns.{entry_read}
use Rattle.table_run.proofs.tracing.required_bytes.Goals as goal

pub returns-clause-bytes : goal.returns-clause-bytes
returns-clause-bytes g c k r is =
    let p = program_of c.args.program.now in
    let first = c.in_ok-t.t in
    let new = c.read_stage.new.t in
    let it =
    entry_read p k c.args.fill c.args.bytes.now r first.met new.met (g.M.State.View.view first.entry) (g.M.State.View.view new.entry)
    (g.M.State.View.view first.state) (g.M.State.View.view new.state) new.read is.mem (c.in_ok-t.ensures.begun c.args.fill c.args.bytes.now r.state is)
    c.in_ok-read_stage.ensures.fuller c.in_ok-read_stage.ensures.met (c.in_ok-read_stage.ensures.read [] c.in_ok-t.ensures.read) in
    listed_all p c.args.fill c.args.bytes.now c.in_ok-bytes.bytes.items r.state.mem (all_reads p k r 0) new.read is.mem it.1 c.in_ok-bytes.ensures.bytes

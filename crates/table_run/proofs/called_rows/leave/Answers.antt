use Rattle.std.proofs.Common.{ap, map, refl}
use Rattle.notes_value.specs.FrameViews.{contract_of}
use Rattle.program_value.specs.Programs.{program_of}
use Rattle.table_run.specs.CalledFrames.{frame_in, own_of}
use Rattle.table_run.proofs.CalledRows.{leave_entry_is, leave_own_is}
use Rattle.table_run.proofs.called_rows.leave.Goals as goal

pub returns-in-None : goal.returns-in-None
returns-in-None g c there =
    let stepped = map contract_of c.args.frame.now.stepped.now in
    leave_entry_is (program_of c.args.frame.now.program) stepped (own_of c.args.frame.now.own) (g.M.State.View.view c.args.entry.now)
    (g.M.State.View.view c.args.state.now) there c.leave_entry.result (ap own_of c.in-None.is) (c.leave_entry.ensures stepped there)

pub returns-in-Some : goal.returns-in-Some
returns-in-Some g c there =
    leave_own_is (program_of c.args.frame.now.program) (map contract_of c.args.frame.now.stepped.now) (own_of c.args.frame.now.own)
    (contract_of c.in-Some.own.contract.now) (g.M.State.View.view c.args.entry.now) (g.M.State.View.view c.args.state.now) there c.leave_own.result
    (ap own_of c.in-Some.is) (c.leave_own.ensures (frame_in c.args.frame.now) refl)

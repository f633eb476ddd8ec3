use Rattle.std.proofs.Common.{ap, None, []}
use Rattle.bilv_spec.specs.Run as run
use Rattle.frame_spec.specs.FrameRuns.{settles}
use Rattle.state_text.specs.Starts.{event_of}
use Rattle.program_value.specs.Programs.{program_of}
use Rattle.table_run.specs.CalledFrames.{called_frame}
use Rattle.table_run.proofs.CalledRows.{event_same, exit_arrives, exit_stops}
use Rattle.table_run.proofs.Stepped.{end_is}
use Rattle.table_run.proofs.called_rows.leave_entry.Goals as goal

pub returns-in-Stops : goal.returns-in-Stops
returns-in-Stops g c stepped there =
    let p = program_of c.args.p.now in
    let s = g.M.State.View.view c.args.state.now in
    let entry = g.M.State.View.view c.args.entry.now in
    exit_stops p stepped entry s there (event_of c.in-Stops.event) (run.exit p entry s)
    (end_is c.exit.result _ s [] (run.exit p entry s) c.in-Stops.is (c.exit.ensures [])) (event_same p stepped None (event_of c.in-Stops.event))

pub returns-in-Arrives : goal.returns-in-Arrives
returns-in-Arrives g c stepped there =
    let p = program_of c.args.p.now in
    let s = g.M.State.View.view c.args.state.now in
    let entry = g.M.State.View.view c.args.entry.now in
    absurd (exit_arrives p entry s _ (end_is c.exit.result _ s [] (run.exit p entry s) c.in-Arrives.is (c.exit.ensures [])))

pub returns-in-Exits : goal.returns-in-Exits
returns-in-Exits g c stepped there =
    let p = program_of c.args.p.now in
    let s = g.M.State.View.view c.args.state.now in
    let entry = g.M.State.View.view c.args.entry.now in
    (s, ap (settles (called_frame p stepped None) entry there) (end_is c.exit.result _ s [] (run.exit p entry s) c.in-Exits.is (c.exit.ensures [])))

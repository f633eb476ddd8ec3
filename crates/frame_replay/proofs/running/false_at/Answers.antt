use Rattle.std.proofs.Common.{sym}
use Rattle.std.specs.Prelude.{None, Some}
use Rattle.program_value.specs.Programs.{program_of}
use Rattle.notes_value.specs.NoteViews.{notes_of}
use Rattle.table_run.specs.FrameEnds.{frame_of}
use Rattle.frame_replay.proofs.Replayed.{false_is}
use Rattle.frame_replay.proofs.running.false_at.Goals as goal

pub returns-in-Ok : goal.returns-in-Ok
returns-in-Ok g c =
    false_is (frame_of (program_of c.args.program.now) c.args.invariants.now) g.M.Machine.form
    (g.M.State.View.view c.args.entry.now) (g.M.State.View.view c.in_ok-state-in-Some.state) c.args.head c.in-Some.head None c.in-Some.is
    (c.in_ok-state-in-Some.ensures.state (notes_of c.args.program.now.notes.now) c.args.program.now.entry) c.in-Ok.ensures.lines

pub returns : goal.returns
returns g c =
    false_is (frame_of (program_of c.args.program.now) c.args.invariants.now) g.M.Machine.form
    (g.M.State.View.view c.args.entry.now) (g.M.State.View.view c.in_ok-state-in-Some.state) c.args.head c.in-Some.head (Some c.in-Err.line) c.in-Some.is
    (c.in_ok-state-in-Some.ensures.state (notes_of c.args.program.now.notes.now) c.args.program.now.entry) (sym c.in-Err.ensures.fault)

use Rattle.std.proofs.Common.{Some, None}
use Rattle.bilv_spec.specs.Answers.{start_in}
use Rattle.program_value.specs.Programs.{program_of}
use Rattle.start_value.specs.Starts.{written_of}
use Rattle.difference_replay.proofs.OneSide.{exit_is, no_exit_is, left_by, written_here}
use Rattle.difference_replay.proofs.sides.leave_by.Goals as goal

pub exit_state-requires-clause-start : goal.exit_state-requires-clause-start
exit_state-requires-clause-start g c = written_here c.args.side.now c.args.start.now (program_of c.program-program.result) g.M.Machine.form c.program-program.ensures c.requires.form c.requires.begun.written

pub returns-in_default : goal.returns-in_default
returns-in_default g c =
    let side = c.args.side.now in
    let p = program_of c.program-program.result in
    left_by side c.args.start.now p g.M.Machine.form c.program-program.ensures c.requires.form c.args.half c.args.number c.args.probes.now None
    (no_exit_is p (start_in p g.M.Machine.form (written_of c.args.start.now)) c.args.number (rw c.in_default.is at c.in_ok-state.ensures.none))

pub returns : goal.returns
returns g c =
    let side = c.args.side.now in
    let p = program_of c.program-program.result in
    let s = g.M.State.View.view c.in-Some.state in
    left_by side c.args.start.now p g.M.Machine.form c.program-program.ensures c.requires.form c.args.half c.args.number c.args.probes.now
    (Some c.in_ok-values.values) (
      s,
      exit_is p (start_in p g.M.Machine.form (written_of c.args.start.now)) c.args.number s (rw c.in-Some.is at c.in_ok-state.ensures.some),
      c.in_ok-values.ensures,
    )

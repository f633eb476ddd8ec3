use Rattle.notes_value.specs.NoteViews.{notes_of}
use Rattle.frame_verdict.specs.FrameFunctions.{program_of_framed}
use Rattle.frame_verdict.proofs.HeadStates.{fits, fits_not}
use Rattle.frame_verdict.proofs.shown.is_head_for.Goals as goal

pub returns-in-Ok-clause-yes : goal.returns-in-Ok-clause-yes
returns-in-Ok-clause-yes g c is =
    let notes = notes_of c.args.framed.now.program.notes.now in
    let at = c.args.framed.now.program.entry in
    fits (program_of_framed c.args.framed.now) c.args.framed.now.invariants.now g.M.Machine.form
    (g.M.State.View.view c.args.entry.now) (g.M.State.View.view c.in_ok-state-in-Some.state) c.args.head c.in-Some.head c.in-Some.is
    (c.in_ok-state-in-Some.ensures.state notes at) c.requires.head c.in-Ok.ensures.head (c.in_ok-state-in-Some.ensures.kept notes at)

pub returns-clause-no : goal.returns-clause-no
returns-clause-no g c is =
    let notes = notes_of c.args.framed.now.program.notes.now in
    let at = c.args.framed.now.program.entry in
    fits_not (program_of_framed c.args.framed.now) c.args.framed.now.invariants.now g.M.Machine.form
    (g.M.State.View.view c.args.entry.now) (g.M.State.View.view c.in_ok-state-in-Some.state) c.args.head c.in-Some.head c.in-Some.is
    (c.in_ok-state-in-Some.ensures.state notes at) c.in-Err.field-0 c.in-Err.ensures.fault

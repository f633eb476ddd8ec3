use Rattle.std.proofs.Common.{subst, sym}
use Rattle.call_spec.specs.Calls.{was_read}
use Rattle.call_spec.specs.Outside.{Agrees}
use Rattle.io_edges.specs.Met.{seen}
use Rattle.program_value.specs.Programs.{program_of}
use Rattle.bilv_top.specs.Answers.{answer_of}
use Rattle.bilv_top.specs.Frames.{whole_with}
use Rattle.bilv_top.proofs.Segments.{segment_unread}
use Rattle.bilv_top.proofs.replay.replay_frames_by.Goals as goal

pub returns-in-Answered-clause-read : goal.returns-in-Answered-clause-read
returns-in-Answered-clause-read g c =
    segment_unread (seen (g.H.Shelf.holds c.args.shelf.now) (g.H.Shelf.faults c.args.shelf.now) (g.H.Shelf.faults c.read_or_answer.new.shelf))
    c.args.name.now (whole_with (program_of c.args.program.now) c.args.framed.now) g.M.Machine.form
    (answer_of c.in-Answered.answer) (rw c.in-Answered.is at c.in_ok-text.ensures.read)

pub returns-clause-read : goal.returns-clause-read
returns-clause-read g c =
    let read = rw c.in-Go.is at c.in_ok-text.ensures.read in
    was_read c.deref.result.now (subst (λ x. Agrees (g.H.Shelf.holds c.args.shelf.now c.args.name.now) x) (sym c.deref.ensures.value) read.0)
    c.in_ok-answer.ensures

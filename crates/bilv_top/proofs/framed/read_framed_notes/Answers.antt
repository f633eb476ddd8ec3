use Rattle.command_line.specs.Commands.{options_of}
use Rattle.bilv_top.specs.Due.{unread}
use Rattle.bilv_top.proofs.Segments.{framed_step}
use Rattle.bilv_top.proofs.framed.read_framed_notes.Goals as goal
use Rattle.bilv_top.proofs.framed.read_framed_notes.Goals.{in-Go+in_ok-step-in-Go, in-Answered}

pub returns-clause-read : goal.returns-clause-read
returns-clause-read g c =
    let held = g.H.Shelf.holds c.args.shelf.now c.args.name.now in
    let before = g.H.Shelf.faults c.args.shelf.now c.args.name.now in
    let after = g.H.Shelf.faults c.read_or_answer.new.shelf c.args.name.now in
    elim c.match-branch-2.branch [
      | in-Go+in_ok-step-in-Go w ↦
          let read = rw w.in-Go.is at c.in_ok-text.ensures.read in
          rw w.step-is (framed_step held before after (options_of c.args.options) c.args.image.now w.in-Go.text.items
          w.in_ok-step-in-Go.step read.0 read.1 w.in_ok-step-in-Go.ensures)
      | in-Answered w ↦ rw w.step-is (unread (rw w.in-Answered.is at c.in_ok-text.ensures.read))
    ]

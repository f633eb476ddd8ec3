use Rattle.std.proofs.Common.{subst}
use Rattle.notes_spec.specs.Verified.{notes_limit}
use Rattle.call_spec.specs.Calls.{plain_answer}
use Rattle.command_line.specs.Commands.{options_of}
use Rattle.bilv_top.specs.Answers.{answer_of}
use Rattle.bilv_top.specs.Due.{IsUnread}
use Rattle.bilv_top.specs.Pairs.{IsNotesAnswerOf}
use Rattle.bilv_top.proofs.Compared.{step_found_of}
use Rattle.bilv_top.proofs.pair.read_notes_of.Goals as goal
use Rattle.bilv_top.proofs.pair.read_notes_of.Goals.{in-Go+in_ok-step-in-Go, in-Answered}

pub returns-clause-read : goal.returns-clause-read
returns-clause-read g c =
    let held = g.H.Shelf.holds c.args.shelf.now c.args.name.now in
    let before = g.H.Shelf.faults c.args.shelf.now c.args.name.now in
    let after = g.H.Shelf.faults c.read_or_answer.new.shelf c.args.name.now in
    elim c.match-branch-2.branch [
      | in-Go+in_ok-step-in-Go w ↦
          let read = rw w.in-Go.is at c.in_ok-text.ensures.read in
          rw w.step-is (step_found_of c.args.which held before after (options_of c.args.options) c.args.image.now w.in-Go.text.items
          w.in_ok-step-in-Go.step read.0 read.1 w.in_ok-step-in-Go.ensures)
      | in-Answered w ↦
          rw w.step-is (IsNotesAnswerOf.unread (subst (λ t. IsUnread held before after notes_limit (plain_answer 5 t) (answer_of w.in-Answered.answer))
          c.notes_large-large.ensures (rw w.in-Answered.is at c.in_ok-text.ensures.read)))
    ]

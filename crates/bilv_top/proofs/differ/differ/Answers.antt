use Rattle.std.proofs.Common.{◌≡◌, sym, subst}
use Rattle.call_spec.specs.Outside.{Agrees}
use Rattle.links_lang.specs.Views.{links_of}
use Rattle.pair_sides.specs.Sides.{side_of}
use Rattle.pair_spec.specs.Differs.{differ_answer}
use Rattle.bilv_top.specs.Answers.{answer_of}
use Rattle.bilv_top.proofs.Compared.{difference_unread, file_read}
use Rattle.bilv_top.proofs.differ.differ.Goals as goal

pub returns-in-Answered-clause-read : goal.returns-in-Answered-clause-read
returns-in-Answered-clause-read g c s met =
    difference_unread s (g.H.Shelf.holds c.args.shelf.now) (g.H.Shelf.faults c.args.shelf.now) (g.H.Shelf.faults c.read_or_answer.new.shelf) met
    c.args.name.now (answer_of c.in-Answered.answer) (side_of c.args.first.now) (side_of c.args.second.now) (links_of c.args.links.now)
    (rw c.in-Answered.is at c.in_ok-text.ensures.read)

pub returns-clause-read : goal.returns-clause-read
returns-clause-read g c s met =
    let read = rw c.in-Go.is at c.in_ok-text.ensures.read in
    let held = g.H.Shelf.holds c.args.shelf.now in
    file_read s held (g.H.Shelf.faults c.args.shelf.now) (g.H.Shelf.faults c.read_or_answer.new.shelf) met c.args.name.now (answer_of c.in_ok-answer.answer)
    (λ text b. b ≡ differ_answer (side_of c.args.first.now) (side_of c.args.second.now) (links_of c.args.links.now) text) c.deref.result.now
    (subst (λ t. Agrees (held c.args.name.now) t) (sym c.deref.ensures.value) read.0) c.in_ok-answer.ensures

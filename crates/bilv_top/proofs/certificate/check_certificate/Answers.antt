use Rattle.std.proofs.Common.{subst, sym}
use Rattle.std.proofs.lemmas.Result.{IfOk-weaker}
use Rattle.call_spec.specs.Outside.{Agrees}
use Rattle.io_edges.specs.Met.{seen}
use Rattle.bilv_top.specs.Answers.{answer_of}
use Rattle.bilv_top.proofs.Checked.{too_large, judged}
use Rattle.bilv_top.proofs.certificate.check_certificate.Goals as goal

pub returns-in-TooLarge-clause-right : goal.returns-in-TooLarge-clause-right
returns-in-TooLarge-clause-right g c =
    let longer = rw c.in-TooLarge.is at c.in_ok-read_within.ensures.read in
    IfOk-weaker c.answer.result _ _
    (λ a is. too_large (seen (g.H.Shelf.holds c.args.shelf.now) (g.H.Shelf.faults c.args.shelf.now) (g.H.Shelf.faults c.read_within.new.shelf)) c.args.name.now
    (answer_of a) longer is) c.answer.ensures

pub returns-in-Bytes-clause-right : goal.returns-in-Bytes-clause-right
returns-in-Bytes-clause-right g c =
    let read = rw c.in-Bytes.is at c.in_ok-read_within.ensures.read in
    IfOk-weaker c.judge.result _ _
    (λ a is. judged (seen (g.H.Shelf.holds c.args.shelf.now) (g.H.Shelf.faults c.args.shelf.now) (g.H.Shelf.faults c.read_within.new.shelf)) c.args.name.now
    c.deref.result.now (answer_of a)
    (subst (λ x. Agrees (g.H.Shelf.holds c.args.shelf.now c.args.name.now) x) (sym c.deref.ensures.value) read.0) is.0 is.1) c.judge.ensures

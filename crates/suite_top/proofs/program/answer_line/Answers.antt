use Rattle.std.proofs.Common.{subst, sym}
use Rattle.io_edges.specs.Met.{met, seen}
use Rattle.suite_top.specs.Ends.{IsEnd, asked}
use Rattle.suite_top.proofs.program.answer_line.Goals as goal

pub returns-in-Ok : goal.returns-in-Ok
returns-in-Ok g c =
    let s = met (seen (g.H.Shelf.holds c.args.shelf.now) (g.H.Shelf.faults c.args.shelf.now) (g.H.Shelf.faults c.answer_request.new.shelf))
    (g.K.Sink.written c.args.out.now) (g.K.Sink.written c.answer_request.new.out) (g.K.Sink.faults c.args.out.now) (g.K.Sink.faults c.answer_request.new.out) in
    subst (λ r. IsEnd s r c.answer_request.result.status) (sym c.in-Ok.ensures.ok) (asked c.answer_request.ensures)

use Rattle.std.proofs.Common.{map, string_bytes, subst}
use Rattle.io_edges.specs.Met.{met, seen}
use Rattle.suite_line.specs.Requests.{lawful_request}
use Rattle.suite_top.specs.Ends.{IsEnd}
use Rattle.suite_top.proofs.program.answer_words.Goals as goal

pub returns-clause-answered : goal.returns-clause-answered
returns-clause-answered g c =
    let s = met (seen (g.H.Shelf.holds c.args.shelf.now) (g.H.Shelf.faults c.args.shelf.now) (g.H.Shelf.faults c.answer_line.new.shelf))
    (g.K.Sink.written c.args.out.now) (g.K.Sink.written c.answer_line.new.out) (g.K.Sink.faults c.args.out.now) (g.K.Sink.faults c.answer_line.new.out) in
    let end = subst (λ x. IsEnd s (lawful_request (map string_bytes x)) c.answer_line.result.status) c.deref.ensures.value c.answer_line.ensures in
    rw c.in-Ok.is end

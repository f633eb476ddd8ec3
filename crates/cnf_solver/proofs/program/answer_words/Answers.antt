use Rattle.std.proofs.Common.{map, string_bytes, subst}
use Rattle.io_edges.specs.Begun.{AreBegun}
use Rattle.io_edges.specs.Met.{met, seen}
use Rattle.cnf_solver.specs.Ends.{IsOutcome}
use Rattle.cnf_solver.specs.Requests.{files_of, lawful_request}
use Rattle.cnf_solver.proofs.program.answer_words.Goals as goal

pub returns-clause-answered : goal.returns-clause-answered
returns-clause-answered g c =
    let s = met (seen (g.H.Shelf.holds c.args.shelf.now) (g.H.Shelf.faults c.args.shelf.now) (g.H.Shelf.faults c.bilv_solve-status.new.shelf))
    (g.K.Sink.written c.args.out.now) (g.K.Sink.written c.bilv_solve-status.new.out) (g.K.Sink.faults c.args.out.now) (g.K.Sink.faults
    c.bilv_solve-status.new.out) in
    let end = subst (λ x. IsOutcome s (lawful_request (map (λ w. string_bytes w) x)) c.bilv_solve-status.result) c.deref.ensures.value
    c.bilv_solve-status.ensures.outcome in
    rw c.new-2.ensures (rw c.in-Ok.is end)

pub returns-clause-begun : goal.returns-clause-begun
returns-clause-begun g c =
    let begun = subst (λ x. AreBegun (g.H.Shelf.begun c.args.shelf.now) (g.H.Shelf.begun c.bilv_solve-status.new.shelf)
    (files_of (lawful_request (map (λ w. string_bytes w) x)))) c.deref.ensures.value c.bilv_solve-status.ensures.begun in
    rw c.in-Ok.is begun

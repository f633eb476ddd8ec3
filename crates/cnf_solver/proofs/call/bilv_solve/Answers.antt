use Rattle.std.proofs.Common.{map, string_bytes, subst}
use Rattle.call_spec.specs.Outside.{Appends}
use Rattle.io_edges.specs.WriteFaults.{Stopped}
use Rattle.io_edges.specs.Met.{seen}
use Rattle.cnf_solver.specs.Answers.{answer_of}
use Rattle.cnf_solver.specs.Requests.{lawful_request}
use Rattle.cnf_solver.proofs.Answered.{whole_of, cut_of}
use Rattle.cnf_solver.proofs.call.bilv_solve.Goals as goal

pub returns-in-Ok-write_all-clause-outcome : goal.returns-in-Ok-write_all-clause-outcome
returns-in-Ok-write_all-clause-outcome g c =
    whole_of (seen (g.H.Shelf.holds c.args.shelf.now) (g.H.Shelf.faults c.args.shelf.now) (g.H.Shelf.faults c.due.new.shelf))
    (g.K.Sink.written c.args.out.now) (g.K.Sink.written c.write_all.new.sink) (g.K.Sink.faults c.args.out.now) (g.K.Sink.faults c.write_all.new.sink)
    (lawful_request (map (λ w. string_bytes w) c.args.words.now)) (answer_of c.in-Ok.answer) c.in-Ok.ensures.due
    (subst (λ t. Appends (g.K.Sink.written c.args.out.now) t (g.K.Sink.written c.write_all.new.sink)) c.deref.ensures.value c.in-Ok-write_all.ensures.ok)

pub returns-clause-outcome : goal.returns-clause-outcome
returns-clause-outcome g c =
    cut_of (seen (g.H.Shelf.holds c.args.shelf.now) (g.H.Shelf.faults c.args.shelf.now) (g.H.Shelf.faults c.due.new.shelf))
    (g.K.Sink.written c.args.out.now) (g.K.Sink.written c.write_all.new.sink) (g.K.Sink.faults c.args.out.now) (g.K.Sink.faults c.write_all.new.sink)
    (lawful_request (map (λ w. string_bytes w) c.args.words.now)) (answer_of c.in-Ok.answer) c.in-Err.field-0 c.in-Ok.ensures.due
    (subst (λ t. Stopped (g.K.Sink.written c.args.out.now) t (g.K.Sink.written c.write_all.new.sink) c.in-Err.field-0) c.deref.ensures.value
    c.in-Err.ensures.by_fault) c.in-Err.ensures.risen

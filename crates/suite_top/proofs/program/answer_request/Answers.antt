use Rattle.std.proofs.Common.{Some, subst, sym}
use Rattle.io_edges.specs.Met.{met, seen}
use Rattle.suite_line.specs.Views.{request_of}
use Rattle.suite_top.specs.Ends.{IsDone}
use Rattle.suite_top.proofs.program.answer_request.Goals as goal

pub returns-in-Run : goal.returns-in-Run
returns-in-Run g c =
    let s = met (seen (g.H.Shelf.holds c.args.shelf.now) (g.H.Shelf.faults c.args.shelf.now) (g.H.Shelf.faults c.run_suite.new.shelf))
    (g.K.Sink.written c.args.out.now) (g.K.Sink.written c.run_suite.new.out) (g.K.Sink.faults c.args.out.now) (g.K.Sink.faults c.run_suite.new.out) in
    subst (λ r. IsDone s (Some (request_of r)) c.run_suite.result.status) (sym c.in-Run.is) c.run_suite.ensures

pub returns-in-Notes : goal.returns-in-Notes
returns-in-Notes g c =
    let s = met (seen (g.H.Shelf.holds c.args.shelf.now) (g.H.Shelf.faults c.args.shelf.now) (g.H.Shelf.faults c.answer_files.new.shelf))
    (g.K.Sink.written c.args.out.now) (g.K.Sink.written c.answer_files.new.out) (g.K.Sink.faults c.args.out.now) (g.K.Sink.faults c.answer_files.new.out) in
    subst (λ r. IsDone s (Some (request_of r)) c.answer_files.result.status) (sym c.in-Notes.is) c.answer_files.ensures

pub returns-in-Check : goal.returns-in-Check
returns-in-Check g c =
    let call = c.answer_files-in-Check in
    let s = met (seen (g.H.Shelf.holds c.args.shelf.now) (g.H.Shelf.faults c.args.shelf.now) (g.H.Shelf.faults call.new.shelf))
    (g.K.Sink.written c.args.out.now) (g.K.Sink.written call.new.out) (g.K.Sink.faults c.args.out.now) (g.K.Sink.faults call.new.out) in
    subst (λ r. IsDone s (Some (request_of r)) call.result.status) (sym c.in-Check.is) call.ensures

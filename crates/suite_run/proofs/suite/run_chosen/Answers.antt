use Rattle.std.proofs.Common.{◌≡◌, ◌∙◌, List, ap, map, option_copied, subst}
use Rattle.io_edges.specs.Met.{met, seen}
use Rattle.suite_file.specs.Suites.{Check}
use Rattle.suite_file.specs.Views.{check_view}
use Rattle.suite_run.specs.Chosen.{chosen, list_text}
use Rattle.suite_run.specs.Ends.{listed, ran}
use Rattle.suite_run.specs.Prints.{IsPrinted}
use Rattle.suite_run.specs.Runs.{IsRun}
use Rattle.suite_run.proofs.suite.run_chosen.Goals as goal

pub returns-then-run-clause-ends : goal.returns-then-run-clause-ends
returns-then-run-clause-ends g c =
    let all : List Check = chosen (option_copied c.args.run.only) (map check_view c.args.checks.now) in
    let same : map (λ x. check_view x.now) c.deref.result.now ≡ all = ap (map (λ x. check_view x.now)) c.deref.ensures.value ∙ c.in-Ok.ensures in
    listed c.if-run.true
    (subst (λ xs. IsPrinted (list_text xs) 0 (g.K.Sink.written c.args.out.now) (g.K.Sink.written c.list_checks.new.out) (g.K.Sink.faults c.args.out.now)
    (g.K.Sink.faults c.list_checks.new.out) c.list_checks.result) same c.list_checks.ensures)

pub returns-clause-ends : goal.returns-clause-ends
returns-clause-ends g c =
    let all : List Check = chosen (option_copied c.args.run.only) (map check_view c.args.checks.now) in
    let same : map (λ x. check_view x.now) c.deref-2.result.now ≡ all = ap (map (λ x. check_view x.now)) c.deref-2.ensures.value ∙ c.in-Ok.ensures in
    ran c.if-run.false
    (subst (λ xs. IsRun (g.V.Verifier.is_answer c.args.verifier.now) (met (seen (g.H.Shelf.holds c.args.shelf.now) (g.H.Shelf.faults c.args.shelf.now)
    (g.H.Shelf.faults c.run_checks.new.shelf)) (g.K.Sink.written c.args.out.now) (g.K.Sink.written c.run_checks.new.out) (g.K.Sink.faults c.args.out.now)
    (g.K.Sink.faults c.run_checks.new.out)) c.args.run.strict c.args.run.json xs c.run_checks.result) same c.run_checks.ensures.ran)

use Rattle.std.proofs.Common.{map, refl, subst}
use Rattle.io_edges.specs.Met.{met, seen}
use Rattle.suite_file.specs.Views.{check_view}
use Rattle.suite_run.specs.Ends.{IsChosenEnd, ended, stopped}
use Rattle.suite_run.specs.Requests.{run_of}
use Rattle.suite_run.proofs.SuiteEnds.{chosen_wider, load_wider}
use Rattle.suite_run.proofs.suite.run_suite.Goals as goal

pub returns-in-Ok-Suite : goal.returns-in-Ok-Suite
returns-in-Ok-Suite g c =
    let answers = g.V.Verifier.is_answer c.args.verifier.now in
    let held = g.H.Shelf.holds c.args.shelf.now in
    let now = g.H.Shelf.holds c.load.new.shelf in
    let first = g.H.Shelf.faults c.args.shelf.now in
    let mid = g.H.Shelf.faults c.load.new.shelf in
    let last = g.H.Shelf.faults c.run_chosen.new.shelf in
    let text = g.K.Sink.written c.args.out.now in
    let new = g.K.Sink.written c.run_chosen.new.out in
    let before = g.K.Sink.faults c.args.out.now in
    let after = g.K.Sink.faults c.run_chosen.new.out in
    let r = run_of c.args.run in
    let loaded = rw c.in-Ok-Suite.field-0-is at c.in-Ok-Suite.ensures.loaded in
    let end = subst (λ xs. IsChosenEnd answers (met (seen now mid last) text new before after) r (map check_view xs) c.run_chosen.result)
    c.deref.ensures.value c.run_chosen.ensures.ends in
    ended (map check_view c.in-Ok-Suite.suite.checks.items) (load_wider held first mid last r.suite _ c.run_chosen.ensures.never_falls loaded)
    (chosen_wider answers held now first mid last c.load.ensures.keeps c.load.ensures.never_falls text new before after r _ c.run_chosen.result end)

pub returns-in-Ok-Stopped : goal.returns-in-Ok-Stopped
returns-in-Ok-Stopped g c = stopped (rw c.in-Ok-Stopped.field-0-is at c.in-Ok-Stopped.ensures.loaded) refl

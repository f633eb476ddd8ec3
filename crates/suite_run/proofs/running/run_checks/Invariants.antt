use Rattle.std.proofs.Common.{◌≡◌, ℕ, ◌≤◌, List, map, take}
use Rattle.suite_file.specs.Views.{check_view}
use Rattle.suite_run.proofs.SoFar.{SoFar}
use Rattle.suite_run.proofs.running.run_checks.Given as goal

abbrev pub invariant-loop-check : goal.invariant-loop-check
invariant-loop-check g l = record {
  keeps : (n : List ℕ) → g.H.Shelf.holds l.shelf n ≡ g.H.Shelf.holds l.fn.shelf n;
  never_falls : (n : List ℕ) → g.H.Shelf.faults l.fn.shelf n ≤ g.H.Shelf.faults l.shelf n;
  sink_never_falls : g.K.Sink.faults l.fn.out ≤ g.K.Sink.faults l.out;
  few : l.expected ≤ l.check-index;
  far : SoFar (g.V.Verifier.is_answer l.verifier) (g.H.Shelf.holds l.fn.shelf) (g.H.Shelf.faults l.fn.shelf) (g.H.Shelf.faults l.shelf) l.run.strict l.run.json
      (map (λ c. check_view c.now) (take l.check-index l.checks)) (g.K.Sink.written l.fn.out) (g.K.Sink.written l.out) l.status l.expected;
}

-- Without invariants and contracts a run is found to come to what the run of the tables comes to.
use Rattle.std.proofs.Common.{◌≡◌, ℕ, ◌+◌, ◌∙◌, refl, ap}
use Rattle.std.specs.Prelude.{Option, None}
use Rattle.bilv_spec.specs.Run as tables
use Rattle.bilv_spec.specs.Run.{Program}
use Rattle.bilv_spec.specs.Reports as reports
use Rattle.bilv_spec.specs.Reports.{turns_within}
use Rattle.frame_spec.specs.FrameRuns.{Start, Run, run}
use Rattle.frame_spec.specs.FrameFound.{as_found, found, found_by}
use Rattle.frame_spec.specs.Theorems.{headless, as_frame_run, as_start}
use Rattle.frame_spec.proofs.Headless.{headless_is_run}

found_as : (a b : tables.Run) → found_by (as_frame_run a) (as_frame_run b) ≡ as_found (reports.found_by a b)
found_as (tables.Going turns n c) (tables.Going more m d) = refl
found_as (tables.Exited at n) (tables.Going more m d) = refl
found_as (tables.Failed e at n) (tables.Going more m d) = refl
found_as (tables.Turned at n) (tables.Going more m d) = refl
found_as a (tables.Exited at n) = refl
found_as a (tables.Failed e at n) = refl
found_as a (tables.Turned at n) = refl

pub found_headless : (p : Program) (k : Option ℕ) (start : Start) (last : ℕ) → start.head ≡ None →
    found (headless p) k start last ≡ as_found (reports.found p k (as_start start) last)
found_headless p k start last none =
    let bound = turns_within last k in
    ap (λ (r : Run). found_by r (run (headless p) bound start (last + 1))) (headless_is_run p bound start none last)
    ∙ ap (found_by (as_frame_run (tables.run p bound (as_start start) last))) (headless_is_run p bound start none (last + 1))
    ∙ found_as (tables.run p bound (as_start start) last) (tables.run p bound (as_start start) (last + 1))

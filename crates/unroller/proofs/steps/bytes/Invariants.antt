use Rattle.std.proofs.Common.{◌≡◌, ◌+◌, drop, map}
use Rattle.std.specs.Prelude.{sum_by}
use Rattle.notes_value.specs.FrameViews.{writes_of}
use Rattle.unroller.proofs.steps.bytes.Given as goal

abbrev pub invariant-loop-line : goal.invariant-loop-line
invariant-loop-line l =
    l.total + sum_by (λ w. w.count) (map writes_of (drop l.line-index l.writes)) ≡ sum_by (λ w. w.count) (map writes_of l.writes)

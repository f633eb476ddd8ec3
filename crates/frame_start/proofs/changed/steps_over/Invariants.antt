use Rattle.std.proofs.Common.{◌≡◌, ℕ, ◌<◌, false}
use Rattle.std.specs.Prelude.{slice_index_or}
use Rattle.question_form.specs.FrameViews.{is_contract}
use Rattle.unroller.specs.RootPoints.{no_point}
use Rattle.frame_start.proofs.changed.steps_over.Given as goal

abbrev pub invariant-loop-i : goal.invariant-loop-i
invariant-loop-i l = (j : ℕ) → j < l.i → is_contract (slice_index_or l.unrolled.points.items j no_point).deed ≡ false

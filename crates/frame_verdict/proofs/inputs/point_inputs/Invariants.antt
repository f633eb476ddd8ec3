use Rattle.std.proofs.Common.{◌≡◌, ◌≤◌, ◌*◌}
use Rattle.question_form.specs.FrameViews.{frame_unrolled_of}
use Rattle.frame_verdict.specs.FreeInputs.{inputs_below}
use Rattle.frame_verdict.proofs.inputs.point_inputs.Given as goal

abbrev pub invariant-loop-i : goal.invariant-loop-i
invariant-loop-i l = (l.inputs ≡ inputs_below (frame_unrolled_of l.unrolled) l.i) × (l.inputs ≤ 1058 * l.i)

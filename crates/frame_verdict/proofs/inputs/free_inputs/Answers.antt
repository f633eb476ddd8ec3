use Rattle.std.proofs.Common.{◌+◌, ap, ◌∙◌, if◌then◌else◌}
use Rattle.question_form.specs.FrameViews.{frame_unrolled_of}
use Rattle.frame_verdict.specs.FreeInputs.{state_inputs}
use Rattle.frame_verdict.proofs.FreeCounts.{free_count}
use Rattle.frame_verdict.proofs.inputs.free_inputs.Goals as goal

pub returns : goal.returns
returns c =
    let v = c.args.unrolled.now in
    let u = frame_unrolled_of v in
    ap (λ z. z + c.point_inputs.result) c.begin_inputs.ensures.is
    ∙ ap (λ z. state_inputs u + (if v.heads then state_inputs u else 0) + z) c.point_inputs.ensures.is ∙ free_count u v.heads

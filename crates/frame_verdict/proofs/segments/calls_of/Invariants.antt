use Rattle.std.proofs.Common.{◌≡◌, ◌++◌, drop, map}
use Rattle.frame_start.specs.Segments.{calls_by, written_parts}
use Rattle.question_form.specs.FrameViews.{frame_unrolled_of}
use Rattle.state_text.specs.Starts.{written_call_of}
use Rattle.frame_verdict.proofs.segments.calls_of.Given as goal

abbrev pub invariant-loop-step : goal.invariant-loop-step
invariant-loop-step l =
    map written_call_of l.calls.items ++ calls_by (frame_unrolled_of l.unrolled) (written_parts l.parts) (drop l.step-index l.steps)
    ≡ calls_by (frame_unrolled_of l.unrolled) (written_parts l.parts) l.steps

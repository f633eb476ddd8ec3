use Rattle.frame_start.specs.Segments.{written_parts}
use Rattle.question_form.specs.FrameViews.{frame_unrolled_of}
use Rattle.frame_verdict.proofs.SegmentParts.{calls_all, calls_next}
use Rattle.frame_verdict.proofs.segments.calls_of.Goals as goal

pub returns : goal.returns
returns c =
    calls_all (frame_unrolled_of c.args.unrolled.now) (written_parts c.args.parts.now) c.args.steps.now c.loop-step.step-index c.loop-step.calls.items
    c.loop-step-test.false c.loop-step.invariant

pub loop-step-preserved : goal.loop-step-preserved
loop-step-preserved c =
    calls_next (frame_unrolled_of c.args.unrolled.now) (written_parts c.args.parts.now) c.args.steps.now c.loop-step.step-index c.loop-step.calls.items
    c.push.new.self.items c.in_ok-call_at.field-0 (0, 0) c.loop-step-test.true c.in_ok-push.ensures.items c.in_ok-call_at.ensures c.loop-step.invariant

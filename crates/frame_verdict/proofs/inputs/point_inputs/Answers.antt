use Rattle.std.proofs.Common.{◌≡◌, ◌<◌, ◌∙◌, refl, sym, subst, length, arith}
use Rattle.question_form.specs.FrameViews.{frame_unrolled_of}
use Rattle.frame_verdict.specs.FreeInputs.{inputs_below}
use Rattle.frame_verdict.proofs.FreeCounts.{choice_small, point_counted, points_count}
use Rattle.frame_verdict.proofs.inputs.point_inputs.Goals as goal

pub loop-i-preserved : goal.loop-i-preserved
loop-i-preserved c =
    let v = c.args.unrolled.now in
    let l : c.loop-i.i < length v.points.items = omega (arith, c.len-i-end.ensures, c.loop-i-test.true) in
    let few = c.given_inputs-given.ensures.few in
    let two = choice_small c.draws.result c.choice_inputs-choices.result c.choice_inputs-choices.ensures in
    let most = c.loop-i.invariant.1 in (
      point_counted v c.loop-i.i c.index-point.result.now c.draws.result c.loop-i.inputs c.choice_inputs-choices.result c.given_inputs-given.result _ l
          c.index-point.ensures c.draws.ensures c.choice_inputs-choices.ensures c.given_inputs-given.ensures.given c.loop-i.invariant.0 refl,
      omega (arith, few, two, most),
    )

pub returns-clause-is : goal.returns-clause-is
returns-clause-is c =
    let v = c.args.unrolled.now in
    subst (λ n. c.loop-i.inputs ≡ inputs_below (frame_unrolled_of v) n)
    (let e : c.loop-i.i ≡ length v.points.items = omega (arith, c.len-i-end.ensures, c.loop-i-test.false)
    in e ∙ sym (points_count v v.points.items)) c.loop-i.invariant.0

use Rattle.std.proofs.Common.{refl}
use Rattle.call_form.specs.Views.{budget_of}
use Rattle.frame_spec.specs.FrameReports.{HasMore}
use Rattle.frame_verdict.specs.FrameFunctions.{whole_of_framed}
use Rattle.frame_verdict.specs.FrameMeasures.{IsMeasuredTo}
use Rattle.frame_verdict.proofs.ByRank.{more_unrolled, none_unrolled}
use Rattle.frame_verdict.proofs.Measured.{match_none, match_some, none_measured}
use Rattle.frame_verdict.proofs.measuring.measure_contracts.Goals as goal

pub loop-rank-init : goal.loop-rank-init
loop-rank-init g c = (
  none_unrolled (whole_of_framed c.args.framed.now) c.args.budget.now.unroll g.M.Machine.form c.new-frames.result.items c.new-frames.ensures.items,
  none_measured (whole_of_framed c.args.framed.now) c.args.budget.now.unroll c.args.budget.now.points _ refl refl,
)

pub returns-in-None : goal.returns-in-None
returns-in-None g c =
    let w = whole_of_framed c.args.framed.now in
    match_none c.in_ok-measure_frame.field-0 (HasMore w c.args.budget.now.unroll c.args.budget.now.points)
    (IsMeasuredTo w c.loop-rank.rank g.M.Machine.form (budget_of c.args.budget.now)) c.in_ok-measure_frame.ensures c.in-None.is

pub loop-rank-preserved : goal.loop-rank-preserved
loop-rank-preserved g c =
    let w = whole_of_framed c.args.framed.now in
    let one = match_some c.in_ok-measure_frame.field-0 c.in-Some.measured (HasMore w c.args.budget.now.unroll c.args.budget.now.points)
    (IsMeasuredTo w c.loop-rank.rank g.M.Machine.form (budget_of c.args.budget.now)) c.in_ok-measure_frame.ensures c.in-Some.is in (
      more_unrolled w c.args.budget.now.unroll g.M.Machine.form c.loop-rank.rank c.loop-rank.frames.items c.push.new.self.items c.in-Some.measured.unrolled
          c.loop-rank.invariant.0 one.unrolled c.in_ok-push-in-Some.ensures.items,
      one.left,
    )

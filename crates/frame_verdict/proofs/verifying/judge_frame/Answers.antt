use Rattle.std.proofs.Common.{subst, sym}
use Rattle.question_form.specs.declared.unrolled.Unrolled.{Unrolled}
use Rattle.frame_verdict.specs.FrameFunctions.{IsReady}
use Rattle.frame_verdict.proofs.Grounding.{askable}
use Rattle.frame_verdict.proofs.verifying.judge_frame.Goals as goal

pub judge-requires-clause-ready : goal.judge-requires-clause-ready
judge-requires-clause-ready g c =
    subst (λ (z : Unrolled). IsReady g.M.Machine.form c.args.framed.now c.args.budget.now c.args.rank z) (sym c.in_ok-passive.ensures.of)
    c.requires.ready

pub judge-requires-clause-askable : goal.judge-requires-clause-askable
judge-requires-clause-askable g c =
    askable c.args.unrolled.now c.in_ok-passive.passive c.requires.ready.unrolled.measurable c.in_ok-passive.ensures.of c.in_ok-passive.ensures.passive

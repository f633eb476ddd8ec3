use Rattle.std.proofs.Common.{subst}
use Rattle.call_form.specs.Views.{budget_of}
use Rattle.question_form.specs.Asked.{frame_question}
use Rattle.question_form.specs.declared.unrolled.Unrolled.{Unrolled}
use Rattle.frame_rounds.specs.FrameGrounds.{AnswersFrame}
use Rattle.frame_verdict.proofs.Grounding.{askable}
use Rattle.frame_verdict.proofs.certifying.certify_unrolled.Goals as goal

pub decide_frame-requires-clause-askable : goal.decide_frame-requires-clause-askable
decide_frame-requires-clause-askable c =
    askable c.args.unrolled.now c.in_ok-passive.passive c.requires.measurable c.in_ok-passive.ensures.of c.in_ok-passive.ensures.passive

pub returns : goal.returns
returns c w rank layout within is =
    c.certified.ensures w rank layout (budget_of c.args.budget.now) (frame_question c.args.question) c.args.unrolled.now within is.ground
    (subst (λ (u : Unrolled). AnswersFrame u (frame_question c.args.question) c.args.budget.now.conflicts c.in_ok-answered.answered)
    c.in_ok-passive.ensures.of c.in_ok-answered.ensures)

use Rattle.question_form.specs.Asked.{frame_question}
use Rattle.frame_verdict.specs.FrameFunctions.{whole_of_framed}
use Rattle.frame_verdict.proofs.Judging.{shown_end}
use Rattle.frame_verdict.proofs.Ready.{can_show}
use Rattle.frame_verdict.proofs.verifying.shows.Goals as goal

pub returns : goal.returns
returns g c =
    shown_end (whole_of_framed c.args.framed.now) c.args.rank c.args.budget.now.unroll g.M.Machine.form c.in_ok-ended.ended
    (frame_question c.args.asked) c.in_ok-ended.ensures c.requires.due

pub first_ended-requires-clause-ready : goal.first_ended-requires-clause-ready
first_ended-requires-clause-ready g c =
    can_show g.M.Machine.form c.args.framed.now c.args.budget.now c.args.rank c.args.unrolled.now c.requires.ready

use Rattle.std.proofs.Common.{sym, subst}
use Rattle.question_form.specs.declared.questions.Passive.{Passive}
use Rattle.frame_terms.specs.PassiveFrames.{IsPassive}
use Rattle.question_form.specs.FrameQuestions.{frame_passive_of}
use Rattle.question_form.specs.FrameViews.{frame_unrolled_of}
use Rattle.question_form.specs.Questions.{term_of}
use Rattle.weakest_pre.proofs.FrameTold.{frame_told}
use Rattle.weakest_pre.proofs.frame_question.Goals as goal

pub returns-clause-tells : goal.returns-clause-tells
returns-clause-tells c =
    let q = c.in_ok-question.question in
    frame_told q.passive.now q.asked (term_of q)
    (subst (λ (p : Passive). IsPassive (frame_unrolled_of p.unrolled.now) p.unrolled.now.heads (frame_passive_of p)) (sym c.in_ok-question.ensures.of.0)
    c.requires.passive) c.in_ok-question.ensures.is

use Rattle.std.proofs.Common.{◌∙◌, sym, subst, ap, length, map, string_bytes}
use Rattle.question_form.specs.FrameQuestions.{frame_of_question}
use Rattle.smtlib_print.specs.Numbered.{AreRanks}
use Rattle.smtlib_print.proofs.Forms.{frame_printable, frame_tells}
use Rattle.smtlib_print.proofs.scripts.frame_script.Goals as goal

pub text_of-requires-clause-printable : goal.text_of-requires-clause-printable
text_of-requires-clause-printable c =
    frame_printable c.args.question.now c.deref.result.now (ap length c.deref.ensures.value ∙ c.in_ok-numbers.ensures.count) c.requires.tells

pub returns : goal.returns
returns c =
    let q = c.args.question.now in
    let are = subst (AreRanks (map (λ x. x.point) (frame_of_question q).points)) (sym c.deref.ensures.value)
    (c.in_ok-numbers.ensures.ranks c.requires.apart) in
    frame_tells q c.deref.result.now (ap length c.deref.ensures.value ∙ c.in_ok-numbers.ensures.count) c.requires.tells are c.in_ok-text.ensures.few
    c.in_ok-text.ensures.fit c.requires.runs (string_bytes c.in_ok-text.text) c.in_ok-text.ensures.text

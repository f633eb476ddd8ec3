use Rattle.std.proofs.Common.{◌∙◌, sym, subst, ap, length, string_bytes}
use Rattle.question_form.specs.Questions.{program_of_question}
use Rattle.smtlib_print.specs.Numbered.{AreNumbersOf}
use Rattle.smtlib_print.proofs.Forms.{program_printable, program_tells}
use Rattle.smtlib_print.proofs.scripts.script.Goals as goal

pub text_of-requires-clause-printable : goal.text_of-requires-clause-printable
text_of-requires-clause-printable c =
    program_printable c.args.question.now c.deref.result.now (ap length c.deref.ensures.value ∙ c.in_ok-numbers.ensures.count) c.requires.tells

pub returns : goal.returns
returns c =
    let q = c.args.question.now in
    let are = subst (AreNumbersOf (program_of_question q)) (sym c.deref.ensures.value) (c.in_ok-numbers.ensures.numbers c.requires.apart) in
    program_tells q c.deref.result.now (ap length c.deref.ensures.value ∙ c.in_ok-numbers.ensures.count) c.requires.tells are c.in_ok-text.ensures.few
    c.in_ok-text.ensures.fit c.requires.runs (string_bytes c.in_ok-text.text) c.in_ok-text.ensures.text

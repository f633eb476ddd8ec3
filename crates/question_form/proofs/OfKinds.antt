-- The question of a program that is asked.
use Rattle.std.proofs.Common.{◌≡◌, refl, ap, ◌∙◌}
use Rattle.call_form.specs.Views.{kind_of}
use Rattle.call_form.specs.declared.kind.Kind.{Kind}
use Rattle.call_form.specs.declared.kind.Kind.TheVariants.{Entry, Fail, Turn}
use Rattle.question_form.specs.Asked.{asked_of, program_question}
use Rattle.question_form.specs.Questions.{question_of}
use Rattle.question_form.specs.declared.questions.Question.{Question}

same : (kind : Kind) → program_question (asked_of kind) ≡ kind_of kind
same Entry = refl
same Fail = refl
same Turn = refl

-- it is that of its kind
pub is_of_kind : (q : Question) (kind : Kind) → q.asked ≡ asked_of kind → question_of q ≡ kind_of kind
is_of_kind q kind is = ap program_question is ∙ same kind

use Rattle.std.proofs.Common.{sym, subst, ◌∙◌}
use Rattle.term_spec.specs.Passive.{IsPassive}
use Rattle.term_spec.specs.WalkQuestions.{TellsQuestion}
use Rattle.walk_spec.specs.Unrolling.{IsWalkable}
use Rattle.call_form.specs.declared.kind.Asked.{Asked}
use Rattle.question_form.specs.declared.questions.Passive.{Passive}
use Rattle.question_form.specs.Asked.{program_question}
use Rattle.question_form.specs.Questions.{passive_of, program_of_question, term_of}
use Rattle.question_form.specs.Views.{unrolled_of}
use Rattle.weakest_pre.specs.Roots.{IsTermOf}
use Rattle.weakest_pre.proofs.FrameTold.{program_told}
use Rattle.weakest_pre.proofs.question.Goals as goal

pub returns-clause-tells : goal.returns-clause-tells
returns-clause-tells c =
    let q = c.in_ok-question.question in
    let of = c.in_ok-question.ensures.of in
    let asked = of.1 ∙ c.of_program.ensures in
    subst (λ (a : Asked). TellsQuestion (program_of_question q) (program_question a) (term_of q)) (sym asked)
    (program_told q.passive.now c.args.kind (term_of q) (subst (λ (p : Passive). IsWalkable (unrolled_of p.unrolled.now)) (sym of.0) c.requires.walkable)
    (subst (λ (p : Passive). IsPassive (unrolled_of p.unrolled.now) (passive_of p)) (sym of.0) c.requires.passive)
    (subst (λ (a : Asked). IsTermOf q.passive.now a (term_of q)) asked c.in_ok-question.ensures.is))

use Rattle.std.proofs.Common.{Option, subst}
use Rattle.program_value.specs.Programs.{program_of}
use Rattle.call_spec.specs.Calls.{Question, EntryQuestion}
use Rattle.model_spec.specs.Models.{IsAskedModelAnswer}
use Rattle.question_form.specs.Views.{kind_of}
use Rattle.start_value.specs.Starts.{layout_of}
use Rattle.verdict.specs.Verdicts.{budget_of}
use Rattle.bilv_top.specs.Answers.{answer_of}
use Rattle.bilv_top.proofs.Modelled.{said_in}
use Rattle.bilv_top.proofs.model.judge_text.Goals as goal

pub returns-in_ok-answer-in-Some : goal.returns-in_ok-answer-in-Some
returns-in_ok-answer-in-Some g c =
    let p = program_of c.args.program.now in
    let b = budget_of c.args.budget.now in
    let text = c.args.text.now in
    let a = answer_of c.in_ok-answer-in-Some.answer in
    let q = kind_of c.in-Some.kind in
    subst (λ (asked : Option Question). IsAskedModelAnswer p g.M.Machine.form b asked text a) (rw c.in-Some.is at c.program-asked.ensures)
    (said_in p b q text a (layout_of c.layout.result) g.M.Machine.form c.in_ok-judged-in-Some.judged c.layout.ensures c.in_ok-judged-in-Some.ensures
    (c.in_ok-answer-in-Some.ensures p q text c.requires.text))

pub returns-in_ok-answer-in-None : goal.returns-in_ok-answer-in-None
returns-in_ok-answer-in-None g c =
    let p = program_of c.args.program.now in
    let b = budget_of c.args.budget.now in
    let text = c.args.text.now in
    subst (λ (asked : Option Question). IsAskedModelAnswer p g.M.Machine.form b asked text (answer_of c.in_ok-answer-in-None.answer))
    (rw c.in-None.is at c.program-asked.ensures)
    (c.in_ok-answer-in-None.ensures p g.M.Machine.form b EntryQuestion text c.requires.text c.in_ok-judged-in-None.ensures)

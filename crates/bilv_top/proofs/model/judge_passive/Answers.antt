use Rattle.std.proofs.Common.{◌≤◌, length, subst, sym}
use Rattle.clause_spec.specs.Checks.{text_limit}
use Rattle.program_value.specs.Programs.{program_of}
use Rattle.call_spec.specs.Calls.{program_question, was_read}
use Rattle.call_spec.specs.Outside.{Agrees}
use Rattle.io_edges.specs.Met.{seen}
use Rattle.call_form.specs.Views.{frame_question}
use Rattle.verdict.specs.Verdicts.{budget_of}
use Rattle.bilv_top.specs.Answers.{answer_of}
use Rattle.bilv_top.proofs.Modelled.{model_unread}
use Rattle.bilv_top.proofs.model.judge_passive.Goals as goal

pub returns-in-Answered-clause-read : goal.returns-in-Answered-clause-read
returns-in-Answered-clause-read g c =
    model_unread (seen (g.H.Shelf.holds c.args.shelf.now) (g.H.Shelf.faults c.args.shelf.now) (g.H.Shelf.faults c.read_or_answer.new.shelf))
    c.args.name.now (program_of c.args.program.now) g.M.Machine.form
    (budget_of c.args.budget.now) (program_question (frame_question c.args.question)) (answer_of c.in-Answered.answer) (rw c.in-Answered.is at c.in_ok-text.ensures.read)

pub judge_text-requires-clause-text : goal.judge_text-requires-clause-text
judge_text-requires-clause-text g c =
    let read = rw c.in-Go.is at c.in_ok-text.ensures.read in
    subst (λ x. length x ≤ text_limit) (sym c.deref.ensures.value) read.1

pub returns-clause-read : goal.returns-clause-read
returns-clause-read g c =
    let read = rw c.in-Go.is at c.in_ok-text.ensures.read in
    was_read c.deref.result.now (subst (λ x. Agrees (g.H.Shelf.holds c.args.shelf.now c.args.name.now) x) (sym c.deref.ensures.value) read.0)
    c.in_ok-answer.ensures

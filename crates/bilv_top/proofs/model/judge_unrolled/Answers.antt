use Rattle.std.proofs.Common.{◌∙◌, ◌≤◌, ap, length, subst, sym}
use Rattle.std.proofs.lemmas.Result.{IfOk-weaker}
use Rattle.program_value.specs.Programs.{program_of}
use Rattle.call_spec.specs.Calls.{AfterRead, program_question}
use Rattle.io_edges.specs.Met.{seen}
use Rattle.model_spec.specs.Models.{IsAskedModelAnswer, within}
use Rattle.call_form.specs.Views.{frame_question}
use Rattle.question_form.specs.Views.{unrolled_of}
use Rattle.question_form.specs.declared.unrolled.Unrolled.{Unrolled}
use Rattle.start_value.specs.Starts.{layout_of}
use Rattle.verdict.specs.Verdicts.{budget_of}
use Rattle.verdict.proofs.Grounding.{came_above, came_within}
use Rattle.bilv_top.specs.Answers.{answer_of}
use Rattle.bilv_top.proofs.Modelled.{size_exceeded}
use Rattle.bilv_top.proofs.model.judge_unrolled.Goals as goal

pub returns-in-Above-clause-priced : goal.returns-in-Above-clause-priced
returns-in-Above-clause-priced g c =
    let p = program_of c.args.program.now in
    let b = budget_of c.args.budget.now in
    let s = seen (g.H.Shelf.holds c.args.shelf.now) (g.H.Shelf.faults c.args.shelf.now) (g.H.Shelf.faults c.args.shelf.now) in
    IfOk-weaker c.beyond.result _ _
    (λ a is. size_exceeded p b (AfterRead s c.args.name.now (IsAskedModelAnswer p g.M.Machine.form b (program_question (frame_question c.args.question)))) (answer_of a) c.in-Above.price is
    (came_above b c.args.unrolled.now c.in_ok-price.field-0 c.in_ok-price.ensures c.in-Above.price c.in-Above.is p g.M.Machine.form c.requires.unrolled))
    c.beyond.ensures

pub judge_passive-requires-clause-ground : goal.judge_passive-requires-clause-ground
judge_passive-requires-clause-ground g c =
    let p = program_of c.args.program.now in
    ((came_within (budget_of c.args.budget.now) c.args.unrolled.now c.in_ok-price.field-0 c.in_ok-price.ensures c.in-Within.passive c.in-Within.is).1
    p g.M.Machine.form c.requires.unrolled).1

pub judge_passive-requires-clause-points : goal.judge_passive-requires-clause-points
judge_passive-requires-clause-points g c =
    subst (λ (u : Unrolled). length (unrolled_of u).points ≤ c.args.budget.now.points)
    (sym (came_within (budget_of c.args.budget.now) c.args.unrolled.now c.in_ok-price.field-0 c.in_ok-price.ensures c.in-Within.passive c.in-Within.is).2)
    c.requires.unrolled.few

pub judge_passive-requires-clause-askable : goal.judge_passive-requires-clause-askable
judge_passive-requires-clause-askable g c =
    (came_within (budget_of c.args.budget.now) c.args.unrolled.now c.in_ok-price.field-0 c.in_ok-price.ensures c.in-Within.passive c.in-Within.is).0

pub judge_passive-requires-clause-form : goal.judge_passive-requires-clause-form
judge_passive-requires-clause-form g c =
    ap (λ (u : Unrolled). layout_of u.form)
    (came_within (budget_of c.args.budget.now) c.args.unrolled.now c.in_ok-price.field-0 c.in_ok-price.ensures c.in-Within.passive c.in-Within.is).2
    ∙ c.requires.form

pub returns-in-Within-clause-priced : goal.returns-in-Within-clause-priced
returns-in-Within-clause-priced g c =
    let p = program_of c.args.program.now in
    IfOk-weaker c.judge_passive.result _ _
    (λ a read. within
    ((came_within (budget_of c.args.budget.now) c.args.unrolled.now c.in_ok-price.field-0 c.in_ok-price.ensures c.in-Within.passive c.in-Within.is).1
    p g.M.Machine.form c.requires.unrolled).0 read) c.judge_passive.ensures.read

use Rattle.std.proofs.lemmas.Result.{IfOk-weaker}
use Rattle.program_value.specs.Programs.{program_of}
use Rattle.call_spec.specs.Calls.{AfterRead, program_question}
use Rattle.io_edges.specs.Met.{seen}
use Rattle.model_spec.specs.Models.{IsAskedModelAnswer}
use Rattle.call_form.specs.Views.{frame_question}
use Rattle.verdict.specs.Verdicts.{budget_of}
use Rattle.bilv_top.specs.Answers.{answer_of}
use Rattle.bilv_top.proofs.Modelled.{points_exceeded}
use Rattle.bilv_top.proofs.model.model_by.Goals as goal

pub returns-in-Err-TooMany-clause-judged : goal.returns-in-Err-TooMany-clause-judged
returns-in-Err-TooMany-clause-judged g c =
    let p = program_of c.args.program.now in
    let b = budget_of c.args.budget in
    let s = seen (g.H.Shelf.holds c.args.shelf.now) (g.H.Shelf.faults c.args.shelf.now) (g.H.Shelf.faults c.args.shelf.now) in
    IfOk-weaker c.beyond.result _ _
    (λ a is. points_exceeded p b (AfterRead s c.args.name.now (IsAskedModelAnswer p g.M.Machine.form b (program_question (frame_question c.args.question)))) (answer_of a)
    c.in-Err-TooMany.count is (rw c.in-Err-TooMany.field-0-is at c.in-Err-TooMany.ensures.more)) (rw c.in-Err-TooMany.field-0-is at c.beyond.ensures)

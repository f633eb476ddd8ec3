use Rattle.std.proofs.lemmas.Result.{IfOk-weaker}
use Rattle.start_value.specs.Starts.{layout_of}
use Rattle.command_line.specs.Commands.{budget_of}
use Rattle.bilv_top.specs.Answers.{answer_of}
use Rattle.bilv_top.proofs.Verdicts.{exceeded_reported}
use Rattle.bilv_top.proofs.reports.report.Goals as goal

pub returns-in-Exceeded : goal.returns-in-Exceeded
returns-in-Exceeded c =
    IfOk-weaker c.beyond.result _ _
    (λ a. exceeded_reported (layout_of c.args.form) (budget_of c.args.budget) c.args.verdict c.in-Exceeded.past (answer_of a) c.in-Exceeded.is) c.beyond.ensures

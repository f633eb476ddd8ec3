use Rattle.std.proofs.lemmas.Result.{IfOk-weaker}
use Rattle.command_line.specs.Commands.{budget_of}
use Rattle.bilv_top.specs.Answers.{answer_of}
use Rattle.bilv_top.specs.Pairs.{side_in}
use Rattle.bilv_top.proofs.PairReported.{pair_exceeded}
use Rattle.bilv_top.proofs.equal.pair_report.Goals as goal

pub returns-in-Exceeded : goal.returns-in-Exceeded
returns-in-Exceeded c =
    IfOk-weaker c.beyond.result _ _
    (λ a is p q. pair_exceeded (side_in c.args.first p) (side_in c.args.second q) (budget_of c.args.budget) c.args.verdict c.in-Exceeded.past (answer_of a)
    c.in-Exceeded.is is) c.beyond.ensures

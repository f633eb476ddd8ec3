use Rattle.std.proofs.Common.{string_bytes}
use Rattle.std.proofs.lemmas.Result.{IfOk-weaker}
use Rattle.bilv_top.specs.Answers.{answer_of}
use Rattle.bilv_top.proofs.Verdicts.{exceeded_frame_scripted, printed_framed}
use Rattle.command_line.specs.Commands.{budget_of}
use Rattle.bilv_top.proofs.script.say_frame.Goals as goal

pub returns-in-Exceeded : goal.returns-in-Exceeded
returns-in-Exceeded c =
    IfOk-weaker c.beyond.result _ _
    (λ a is w rank layout q came. exceeded_frame_scripted w rank layout (budget_of c.args.budget) q (answer_of a) c.in-Exceeded.past is
    (rw c.in-Exceeded.is at came)) c.beyond.ensures

pub returns-in-Script : goal.returns-in-Script
returns-in-Script c w rank layout q came =
    let script = rw c.in-Script.is at came in
    printed_framed w rank layout (budget_of c.args.budget) q (answer_of c.printed.result) (string_bytes c.in-Script.text) script.0 script.1
    c.printed.ensures

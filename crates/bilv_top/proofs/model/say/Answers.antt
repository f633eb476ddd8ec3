use Rattle.std.proofs.lemmas.Result.{IfOk-weaker}
use Rattle.model_text.specs.Faults.{fault_of}
use Rattle.start_value.specs.Starts.{layout_of}
use Rattle.verdict.specs.Verdicts.{budget_of}
use Rattle.bilv_top.specs.Answers.{answer_of}
use Rattle.bilv_top.proofs.Modelled.{accepted_said, refusal_said, untrue_said}
use Rattle.bilv_top.proofs.model.say.Goals as goal

pub returns-in-Refused : goal.returns-in-Refused
returns-in-Refused c =
    IfOk-weaker c.refused.result _ _
    (λ a is p question text short came. refusal_said p (layout_of c.args.form) (budget_of c.args.budget.now) question text short (answer_of a) c.in-Refused.line
    (fault_of c.in-Refused.kind) c.model_fault_text.result.now c.model_fault_text.ensures is (rw c.in-Refused.is at came)) c.refused.ensures

pub returns-in-Untrue : goal.returns-in-Untrue
returns-in-Untrue c =
    IfOk-weaker c.untrue.result _ _
    (λ a is p question text short came. untrue_said p (layout_of c.args.form) (budget_of c.args.budget.now) question text short (answer_of a) is
    (rw c.in-Untrue.is at came)) c.untrue.ensures

pub returns-in-Accepted : goal.returns-in-Accepted
returns-in-Accepted c =
    IfOk-weaker c.accepted.result _ _
    (λ a is p question text short came. accepted_said p (layout_of c.args.form) (budget_of c.args.budget.now) question text short (answer_of a)
    c.in-Accepted.end c.in-Accepted.start is (rw c.in-Accepted.is at came)) c.accepted.ensures

use Rattle.std.proofs.lemmas.Result.{IfOk-weaker}
use Rattle.model_text.specs.Faults.{fault_of}
use Rattle.bilv_top.specs.Answers.{answer_of}
use Rattle.bilv_top.proofs.Modelled.{false_refusal_said, never_said}
use Rattle.bilv_top.proofs.model.say_false.Goals as goal

pub returns-in-Refused : goal.returns-in-Refused
returns-in-Refused c =
    IfOk-weaker c.refused.result _ _
    (λ a is p layout b kind text short came. false_refusal_said p layout b text short (answer_of a) c.in-Refused.line (fault_of c.in-Refused.kind)
    c.model_fault_text.result.now c.model_fault_text.ensures is (rw c.in-Refused.is at came)) c.refused.ensures

pub returns-in-Untrue : goal.returns-in-Untrue
returns-in-Untrue c =
    IfOk-weaker c.untrue.result _ _
    (λ a is p layout b kind text short came.
    let judged = rw c.in-Untrue.is at came in never_said p layout b text short (answer_of a) judged.reading is judged.is_read) c.untrue.ensures

pub returns-in-Accepted : goal.returns-in-Accepted
returns-in-Accepted c =
    IfOk-weaker c.untrue-in-Accepted.result _ _
    (λ a is p layout b kind text short came.
    let judged = rw c.in-Accepted.is at came in never_said p layout b text short (answer_of a) judged.reading is judged.is_read) c.untrue-in-Accepted.ensures

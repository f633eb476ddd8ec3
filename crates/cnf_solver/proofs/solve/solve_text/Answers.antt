use Rattle.std.proofs.Common.{ap}
use Rattle.std.proofs.lemmas.Result.{IfOk-weaker}
use Rattle.call_spec.specs.Calls.{plain_answer}
use Rattle.cnf_form.specs.Faults.{fault_of}
use Rattle.cnf_form.specs.Views.{cnf_of}
use Rattle.cnf_solver.specs.Solutions.{refused, said}
use Rattle.cnf_solver.proofs.solve.solve_text.Goals as goal

pub returns-in-Ok : goal.returns-in-Ok
returns-in-Ok c =
    let read = c.in-Ok.ensures.read in
    IfOk-weaker c.search.result _ _ (λ a is. said (cnf_of c.in-Ok.cnf) read.0 c.requires.short read.1 is) c.search.ensures

pub returns-in_ok-text-in-Err-Refused : goal.returns-in_ok-text-in-Err-Refused
returns-in_ok-text-in-Err-Refused c =
    refused c.in-Err-Refused.line (fault_of c.in-Err-Refused.fault) c.requires.short (rw c.in-Err-Refused.field-0-is at c.in-Err-Refused.ensures.refused)
    (ap (plain_answer 9) c.in_ok-text-in-Err-Refused.ensures)

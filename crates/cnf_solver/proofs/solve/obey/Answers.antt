use Rattle.std.proofs.Common.{Err, ap}
use Rattle.std.proofs.lemmas.Result.{IfOk-weaker}
use Rattle.call_spec.specs.Calls.{was_read}
use Rattle.cnf_solver.specs.Solutions.{large}
use Rattle.cnf_solver.proofs.solve.obey.Goals as goal

pub returns-in-Ok-clause-read : goal.returns-in-Ok-clause-read
returns-in-Ok-clause-read g c = IfOk-weaker c.solve_text.result _ _ (λ a is. was_read c.in-Ok.text.items c.in-Ok.ensures.whole is) c.solve_text.ensures

pub returns-in-Err-TooLarge-clause-read : goal.returns-in-Err-TooLarge-clause-read
returns-in-Err-TooLarge-clause-read g c =
    let longer = c.in-Err-TooLarge.ensures.too_large (ap Err c.in-Err-TooLarge.field-0-is) in
    IfOk-weaker c.answer.result _ _ (λ a is. was_read longer.0 longer.1 (large longer.2 is)) c.answer.ensures

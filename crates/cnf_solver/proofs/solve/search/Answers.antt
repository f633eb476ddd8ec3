use Rattle.std.proofs.Common.{◌∙◌, ap}
use Rattle.std.proofs.lemmas.Result.{IfOk-weaker}
use Rattle.call_spec.specs.Calls.{plain_answer}
use Rattle.clause_spec.proofs.RefutationSound.{refutation_sound}
use Rattle.cnf_form.specs.Views.{lines_of}
use Rattle.cnf_solver.specs.Solutions.{satisfiable_text, satisfiable, unsatisfiable, unknown}
use Rattle.cnf_solver.proofs.solve.search.Goals as goal

pub returns-in-Sat : goal.returns-in-Sat
returns-in-Sat c =
    let found = rw c.in-Sat.is at c.in_ok-values.ensures in
    satisfiable c.in-Sat.values.items found.0 found.1 (ap (plain_answer 10) (c.in_ok-text-in-Sat.ensures ∙ ap satisfiable_text c.deref.ensures.value))

pub returns-in-Unsat : goal.returns-in-Unsat
returns-in-Unsat c =
    let found = rw c.in-Unsat.is at c.in_ok-values.ensures in
    unsatisfiable (lines_of c.in-Unsat.log) (refutation_sound c.args.cnf.now.variables c.args.cnf.now.clauses.items (lines_of c.in-Unsat.log) found) found
    (ap (plain_answer 20) c.in_ok-text-in-Unsat.ensures)

pub returns : goal.returns
returns c =
    let found = rw c.in-Spent.is at c.in_ok-values.ensures in
    IfOk-weaker c.answer.result _ _ (λ a is. unknown (lines_of c.in-Spent.field-0) found.0 is) c.answer.ensures

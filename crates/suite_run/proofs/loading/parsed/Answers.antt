use Rattle.std.proofs.Common.{◌≡◌, true, is_some, ap, sym, ◌∙◌, refl, arith}
use Rattle.std.proofs.lemmas.Grind.{common_steps}
use Rattle.suite_file.specs.Suites.{suite_of}
use Rattle.suite_file.specs.Views.{suite_view, fault_of}
use Rattle.suite_run.specs.Loads.{parsed, refused}
use Rattle.suite_run.proofs.Faults.{fault_found}
use Rattle.suite_run.proofs.loading.parsed.Goals as goal

pub returns-in-Ok-parse_suite : goal.returns-in-Ok-parse_suite
returns-in-Ok-parse_suite c =
    parsed (suite_view c.in-Ok-parse_suite.suite) (ap suite_of (sym c.in-Ok.ensures.cases.0) ∙ c.in-Ok-parse_suite.ensures.ok) refl

pub returns-in_ok-end-in-Err : goal.returns-in_ok-end-in-Err
returns-in_ok-end-in-Err c =
    let some : is_some (fault_of c.in-Err.fault) ≡ true = grind (arith, common_steps) in
    let found = fault_found (suite_of c.in-Ok.text.now) (fault_of c.in-Err.fault) some c.in-Err.ensures.refused in
    refused found.0 (ap suite_of (sym c.in-Ok.ensures.cases.0) ∙ found.1) c.in_ok-end-in-Err.ensures

-- How a suite is run.
use Rattle.std.specs.Prelude.{List, ℕ, Option, Bool, option_copied}
use Rattle.suite_run.specs.declared.request.Run as code

-- the file of the suite, the text that the names of the checks have, whether vacuous answers and warnings are refused, whether the names alone
-- are printed, whether lines are JSON
pub record Run : Type 0 where
  pub suite : List ℕ
  pub only : Option (List ℕ)
  pub strict : Bool
  pub list : Bool
  pub json : Bool

abbrev pub run_of : code.Run → Run
run_of r = record { suite = r.suite.now; only = option_copied r.only; strict = r.strict; list = r.list; json = r.json }

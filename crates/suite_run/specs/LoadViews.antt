-- What was loaded, in the code.
use Rattle.std.specs.Prelude.{ℕ, ◌≡◌}
use Rattle.suite_file.specs.Views.{suite_view}
use Rattle.suite_run.specs.Loads as spec
use Rattle.suite_run.specs.Loads.{Checks, Stopped as Ends}
use Rattle.suite_run.specs.declared.loading.Loaded.{Loaded}
use Rattle.suite_run.specs.declared.loading.Loaded.TheVariants.{Suite, Stopped}

abbrev pub loaded_of : Loaded → spec.Loaded
loaded_of (Suite suite) = Checks (suite_view suite)
loaded_of (Stopped ended) = Ends ended.status

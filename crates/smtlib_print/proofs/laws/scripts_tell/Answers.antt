use Rattle.start_value.specs.Starts.{layout_of}
use Rattle.smtlib_print.proofs.Layouts.{usable_of}
use Rattle.smtlib_print.proofs.Telling.{script_tells}
use Rattle.smtlib_print.proofs.laws.scripts_tell.Goals as goal

pub returns : goal.returns
returns c u form points numbers question nodes root laid order are tells few fit behind =
    script_tells u (layout_of form) (usable_of form) laid points numbers are nodes root question tells few fit behind order

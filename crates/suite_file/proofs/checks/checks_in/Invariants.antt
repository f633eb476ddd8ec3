use Rattle.std.proofs.Common.{◌≡◌, ◌+◌, map, drop}
use Rattle.toml.specs.View.{items_view}
use Rattle.suite_file.specs.Suites.{checks_in}
use Rattle.suite_file.specs.Views.{check_view, defaults_view}
use Rattle.suite_file.proofs.Readings.{behind}
use Rattle.suite_file.proofs.checks.checks_in.Given as goal

abbrev pub invariant-loop-i : goal.invariant-loop-i
invariant-loop-i l =
    behind (map check_view l.checks.items) (checks_in (defaults_view l.defaults) (l.i + 1) (items_view (drop l.i l.values))) ≡ checks_in (defaults_view l.defaults) 1 (items_view l.values)

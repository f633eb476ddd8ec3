use Rattle.std.proofs.Common.{◌≡◌, ◌++◌, drop, map, option_copied}
use Rattle.suite_file.specs.Views.{check_view}
use Rattle.suite_run.specs.Chosen.{chosen}
use Rattle.suite_run.proofs.choosing.chosen.Given as goal

abbrev pub invariant-loop-check : goal.invariant-loop-check
invariant-loop-check l =
    map (λ c. check_view c.now) l.chosen.items ++ chosen (option_copied l.only) (map check_view (drop l.check-index l.checks))
    ≡ chosen (option_copied l.only) (map check_view l.checks)

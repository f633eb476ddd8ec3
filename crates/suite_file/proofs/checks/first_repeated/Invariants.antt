use Rattle.std.proofs.Common.{◌≡◌, [], map, drop, take}
use Rattle.suite_file.specs.Suites.{first_repeated}
use Rattle.suite_file.specs.Views.{check_view}
use Rattle.suite_file.proofs.checks.first_repeated.Given as goal

abbrev pub invariant-loop-i : goal.invariant-loop-i
invariant-loop-i l = first_repeated (map check_view (take l.i l.checks)) (map check_view (drop l.i l.checks)) ≡ first_repeated [] (map check_view l.checks)

use Rattle.std.proofs.Common.{◌≡◌, ◌++◌, drop, map}
use Rattle.suite_file.specs.Views.{check_view}
use Rattle.suite_run.specs.Chosen.{list_text}
use Rattle.suite_run.proofs.choosing.list_text.Given as goal

abbrev pub invariant-loop-check : goal.invariant-loop-check
invariant-loop-check l =
    l.text.items ++ list_text (map (λ c. check_view c.now) (drop l.check-index l.checks)) ≡ list_text (map (λ c. check_view c.now) l.checks)

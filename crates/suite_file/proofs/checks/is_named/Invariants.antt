use Rattle.std.proofs.Common.{◌≡◌, map, drop}
use Rattle.std.specs.List.{list_any}
use Rattle.std.specs.Str.{bytes_eq}
use Rattle.suite_file.specs.Views.{check_view}
use Rattle.suite_file.proofs.checks.is_named.Given as goal

abbrev pub invariant-loop-check : goal.invariant-loop-check
invariant-loop-check l = list_any (λ e. bytes_eq e.name l.name) (map check_view (drop l.check-index l.checks)) ≡ list_any (λ e. bytes_eq e.name l.name) (map check_view l.checks)

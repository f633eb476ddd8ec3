use Rattle.std.proofs.Common.{◌≡◌, ◌++◌, drop}
use Rattle.suite_report.specs.Objects.{json_more}
use Rattle.suite_report.proofs.json.push_more.Given as goal

abbrev pub invariant-loop-warning : goal.invariant-loop-warning
invariant-loop-warning l = l.initial.out.items ++ json_more l.warnings ≡ l.out.items ++ json_more (drop l.warning-index l.warnings)

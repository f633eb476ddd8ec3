use Rattle.std.proofs.Common.{◌≡◌, ◌++◌, drop}
use Rattle.suite_report.specs.Reports.{warnings_text}
use Rattle.suite_report.proofs.printing.push_warnings.Given as goal

abbrev pub invariant-loop-warning : goal.invariant-loop-warning
invariant-loop-warning l = l.initial.out.items ++ warnings_text l.warnings ≡ l.out.items ++ warnings_text (drop l.warning-index l.warnings)

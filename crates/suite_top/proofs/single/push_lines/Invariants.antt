use Rattle.std.proofs.Common.{◌≡◌, ◌++◌, drop}
use Rattle.suite_top.specs.Singles.{warning_lines}
use Rattle.suite_top.proofs.single.push_lines.Given as goal

abbrev pub invariant-loop-warning : goal.invariant-loop-warning
invariant-loop-warning l = l.initial.out.items ++ warning_lines l.warnings ≡ l.out.items ++ warning_lines (drop l.warning-index l.warnings)

use Rattle.std.proofs.Common.{◌≡◌, ◌++◌, drop, take}
use Rattle.suite_report.specs.Reports.{first_line}
use Rattle.suite_report.proofs.printing.first_line.Given as goal

abbrev pub invariant-loop-i : goal.invariant-loop-i
invariant-loop-i l = take l.i l.text ++ first_line (drop l.i l.text) ≡ first_line l.text

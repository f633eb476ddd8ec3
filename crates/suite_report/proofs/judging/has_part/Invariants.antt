use Rattle.std.proofs.Common.{◌≡◌, drop}
use Rattle.suite_report.specs.Reports.{has_part}
use Rattle.suite_report.proofs.judging.has_part.Given as goal

abbrev pub invariant-loop-i : goal.invariant-loop-i
invariant-loop-i l = has_part l.part (drop l.i l.text) ≡ has_part l.part l.text

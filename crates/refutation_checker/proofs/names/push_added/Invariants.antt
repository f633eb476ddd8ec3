use Rattle.std.proofs.Common.{◌≡◌, ◌++◌, drop, map}
use Rattle.cnf_form.specs.Views.{line_of, lines_of}
use Rattle.refutation_checker.specs.Occurrences.{variables_added}
use Rattle.refutation_checker.proofs.names.push_added.Given as goal

abbrev pub invariant-loop-line : goal.invariant-loop-line
invariant-loop-line l = l.out.items ++ variables_added (map line_of (drop l.line-index l.log.lines.items)) ≡ l.fn.out.items ++ variables_added (lines_of l.log)

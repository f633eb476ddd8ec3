use Rattle.std.proofs.Common.{◌≡◌, ◌++◌, drop, map}
use Rattle.word_spec.specs.Texts.{lines}
use Rattle.clause_spec.specs.Certificates.{log_line}
use Rattle.cnf_form.specs.Views.{line_of}
use Rattle.refutation_checker.proofs.print.print_lrat.Given as goal

abbrev pub invariant-loop-line : goal.invariant-loop-line
invariant-loop-line l = l.out.items ++ lines (map log_line (map line_of (drop l.line-index l.log.lines.items)))
    ≡ lines (map log_line (map line_of l.log.lines.items))

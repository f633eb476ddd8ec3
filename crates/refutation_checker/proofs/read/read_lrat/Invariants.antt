use Rattle.std.proofs.Common.{◌≡◌, ◌++◌, map, length}
use Rattle.word_spec.specs.Texts.{split_lines}
use Rattle.clause_spec.specs.CertificateGrammar.{log_of_lines}
use Rattle.cnf_form.specs.Views.{line_of}
use Rattle.refutation_checker.proofs.read.read_lrat.Given as goal

abbrev pub invariant-loop-line : goal.invariant-loop-line
invariant-loop-line l = map line_of l.lines.items ++ log_of_lines (split_lines l.rest) ≡ log_of_lines (split_lines l.text)

abbrev pub decreases-loop-line : goal.decreases-loop-line
decreases-loop-line l = length l.rest

use Rattle.std.proofs.Common.{◌≡◌, is_some, length}
use Rattle.clause_spec.specs.CertificateGrammar.{words_of, numbers_of}
use Rattle.cnf_form.proofs.read.are_numbers.Given as goal

abbrev pub invariant-loop-word : goal.invariant-loop-word
invariant-loop-word l = is_some (numbers_of (words_of l.line)) ≡ is_some (numbers_of (words_of l.rest))

abbrev pub decreases-loop-word : goal.decreases-loop-word
decreases-loop-word l = length l.rest

use Rattle.std.proofs.Common.{◌≡◌, length}
use Rattle.clause_spec.specs.CertificateGrammar.{words_of, numbers_of}
use Rattle.cnf_form.proofs.ReadLines.{outcome}
use Rattle.cnf_form.proofs.read.read_numbers.Given as goal

abbrev pub invariant-loop-word : goal.invariant-loop-word
invariant-loop-word l = outcome l.fn.header l.fn.gathered (numbers_of (words_of l.line)) ≡ outcome l.fn.header l.gathered (numbers_of (words_of l.rest))

abbrev pub decreases-loop-word : goal.decreases-loop-word
decreases-loop-word l = length l.rest

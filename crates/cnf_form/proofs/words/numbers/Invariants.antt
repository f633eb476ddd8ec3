use Rattle.std.proofs.Common.{◌≡◌, map, length, option_map}
use Rattle.clause_spec.specs.CertificateGrammar.{words_of, numbers_of}
use Rattle.cnf_form.specs.Numbers.{capped}
use Rattle.cnf_form.proofs.NumbersRead.{behind}
use Rattle.cnf_form.proofs.words.numbers.Given as goal

abbrev pub invariant-loop-word : goal.invariant-loop-word
invariant-loop-word l = option_map (map capped) (numbers_of (words_of l.line)) ≡ behind l.out.items (option_map (map capped) (numbers_of (words_of l.rest)))

abbrev pub decreases-loop-word : goal.decreases-loop-word
decreases-loop-word l = length l.rest

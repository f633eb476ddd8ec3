use Rattle.std.proofs.Common.{◌≡◌, drop}
use Rattle.clause_spec.specs.CertificateGrammar.{words_of}
use Rattle.cnf_form.proofs.words.from_word.Given as goal

abbrev pub invariant-loop-i : goal.invariant-loop-i
invariant-loop-i l = words_of (drop l.i l.line) ≡ words_of l.line

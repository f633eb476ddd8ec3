use Rattle.std.proofs.Common.{◌≡◌, ◌++◌, drop, map}
use Rattle.clause_spec.specs.CertificateGrammar.{hint_of as hint_from}
use Rattle.cnf_form.specs.Views.{hint_of}
use Rattle.refutation_checker.proofs.read.hints_of.Given as goal

abbrev pub invariant-loop-number : goal.invariant-loop-number
invariant-loop-number l = map hint_of l.hints.items ++ map hint_from (drop l.number-index l.numbers) ≡ map hint_from l.numbers

use Rattle.std.proofs.Common.{◌≡◌, drop}
use Rattle.clause_spec.specs.CertificateGrammar.{some_below}
use Rattle.refutation_checker.proofs.read.has_below.Given as goal

abbrev pub invariant-loop-number : goal.invariant-loop-number
invariant-loop-number l = some_below l.numbers ≡ some_below (drop l.number-index l.numbers)

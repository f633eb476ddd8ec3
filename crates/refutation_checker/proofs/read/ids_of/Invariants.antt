use Rattle.std.proofs.Common.{◌≡◌, ◌++◌, drop, map}
use Rattle.clause_spec.specs.CertificateGrammar.{Integer}
use Rattle.refutation_checker.proofs.read.ids_of.Given as goal

abbrev pub invariant-loop-number : goal.invariant-loop-number
invariant-loop-number l = l.ids.items ++ map (λ (n : Integer). n.size) (drop l.number-index l.numbers) ≡ map (λ (n : Integer). n.size) l.numbers

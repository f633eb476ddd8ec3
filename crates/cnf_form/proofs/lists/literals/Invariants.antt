use Rattle.std.proofs.Common.{◌≡◌, ◌++◌, drop, map}
use Rattle.std.specs.List.{list_all}
use Rattle.clause_spec.specs.CertificateGrammar.{Integer, literal_of}
use Rattle.clause_spec.specs.Refutation.{is_listed}
use Rattle.cnf_form.proofs.lists.literals.Given as goal

abbrev pub invariant-loop-number : goal.invariant-loop-number
invariant-loop-number l = record {
  literals : l.clause ++ map literal_of (drop l.number-index l.numbers) ≡ map literal_of l.numbers;
  listed : list_all (λ (n : Integer). is_listed n.size) l.numbers ≡ list_all (λ (n : Integer). is_listed n.size) (drop l.number-index l.numbers);
}

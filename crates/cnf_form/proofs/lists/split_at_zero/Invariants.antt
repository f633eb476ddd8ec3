use Rattle.std.proofs.Common.{◌≡◌, take, true, not}
use Rattle.std.specs.List.{list_all}
use Rattle.clause_spec.specs.CertificateGrammar.{is_zero}
use Rattle.cnf_form.proofs.lists.split_at_zero.Given as goal

abbrev pub invariant-loop-i : goal.invariant-loop-i
invariant-loop-i l = list_all (λ n. not (is_zero n)) (take l.i l.numbers) ≡ true

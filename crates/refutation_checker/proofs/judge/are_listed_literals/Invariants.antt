use Rattle.std.proofs.Common.{◌≡◌, drop}
use Rattle.clause_spec.specs.Refutation.{is_listed}
use Rattle.std.specs.List.{list_all}
use Rattle.clause_spec.specs.Clauses.{Literal}
use Rattle.refutation_checker.proofs.judge.are_listed_literals.Given as goal

abbrev pub invariant-loop-lit : goal.invariant-loop-lit
invariant-loop-lit l = list_all (λ (k : Literal). is_listed k.variable) l.clause ≡ list_all (λ (k : Literal). is_listed k.variable) (drop l.lit-index l.clause)

use Rattle.std.proofs.Common.{◌≡◌, drop, map}
use Rattle.clause_spec.specs.Refutation.{is_listed, hint_size}
use Rattle.std.specs.List.{list_all}
use Rattle.cnf_form.specs.Views.{hint_of}
use Rattle.refutation_checker.proofs.judge.are_listed_hints.Given as goal

abbrev pub invariant-loop-hint : goal.invariant-loop-hint
invariant-loop-hint l = list_all (λ h. is_listed (hint_size h)) (map hint_of l.hints)
    ≡ list_all (λ h. is_listed (hint_size h)) (map hint_of (drop l.hint-index l.hints))

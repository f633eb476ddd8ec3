use Rattle.std.proofs.Common.{◌≡◌, drop, map}
use Rattle.clause_spec.specs.Refutation.{some_negative}
use Rattle.cnf_form.specs.Views.{hint_of}
use Rattle.refutation_checker.proofs.judge.has_negative.Given as goal

abbrev pub invariant-loop-hint : goal.invariant-loop-hint
invariant-loop-hint l = some_negative (map hint_of l.hints) ≡ some_negative (map hint_of (drop l.hint-index l.hints))

use Rattle.std.proofs.Common.{◌≡◌, drop}
use Rattle.clause_spec.specs.Refutation.{is_listed}
use Rattle.std.specs.List.{list_all}
use Rattle.refutation_checker.proofs.judge.are_listed_ids.Given as goal

abbrev pub invariant-loop-id : goal.invariant-loop-id
invariant-loop-id l = list_all is_listed l.ids ≡ list_all is_listed (drop l.id-index l.ids)

use Rattle.std.proofs.lemmas.List.Filters.{dedup_is}
use Rattle.std.proofs.lemmas.List.Kept.{AllPairs-from_increasing, Contains-dedup_nat}
use Rattle.std.proofs.lemmas.List.Sorted.{Contains-permutation}
use Rattle.std.proofs.lemmas.Map.Keys.{IsStrictlyIncreasing-dedup}
use Rattle.refutation_checker.proofs.names.occurring.Goals as goal

pub returns-clause-rising : goal.returns-clause-rising
returns-clause-rising c =
    let is = dedup_is _ _ _ c.dedup.ensures.filtered in
    λ j k lt le. AllPairs-from_increasing _ (rw is (IsStrictlyIncreasing-dedup _ c.sort_unstable.ensures.sorted)) j k 0 lt le

pub returns-clause-all : goal.returns-clause-all
returns-clause-all c =
    let is = dedup_is _ _ _ c.dedup.ensures.filtered in
    λ x h. rw is (Contains-dedup_nat _ x (Contains-permutation _ _ x c.sort_unstable.ensures.permutation
    (rw (c.in_ok-push_added.ensures, c.in_ok-push_given.ensures, c.deref.ensures.value, c.new-names.ensures.items) h)))

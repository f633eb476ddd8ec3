use Rattle.std.proofs.Common.{subst, sym}
use Rattle.std.specs.Prelude.{eqb}
use Rattle.std.specs.List.Sorted.{IsStrictlyIncreasing}
use Rattle.std.proofs.lemmas.List.Filters.{dedup_is}
use Rattle.std.proofs.lemmas.Map.Keys.{IsStrictlyIncreasing-dedup}
use Rattle.frame_replay.proofs.Returned.{ordered_among}
use Rattle.frame_replay.proofs.returns.in_order.Goals as goal

pub returns-clause-rising : goal.returns-clause-rising
returns-clause-rising c =
    subst IsStrictlyIncreasing (sym (dedup_is eqb _ _ c.dedup.ensures.filtered)) (IsStrictlyIncreasing-dedup c.sort.new.self.items c.in_ok-sort.ensures.sorted)

pub returns-clause-same : goal.returns-clause-same
returns-clause-same c = ordered_among c.args.found.items c.sort.new.self.items c.dedup.new.self.items c.in_ok-sort.ensures.permutation
    (dedup_is eqb _ _ c.dedup.ensures.filtered)

use Rattle.std.specs.Prelude.{eqb}
use Rattle.std.proofs.lemmas.List.Filters.{dedup_is}
use Rattle.known_bytes.proofs.Ordered.{ordered_rise, ordered_same}
use Rattle.unroller.proofs.keys.keys_in_order.Goals as goal

pub returns-clause-rise : goal.returns-clause-rise
returns-clause-rise c = ordered_rise c.sort.new.self.items c.dedup.new.self.items c.in_ok-sort.ensures.sorted (dedup_is eqb _ _ c.dedup.ensures.filtered)

pub returns-clause-same : goal.returns-clause-same
returns-clause-same c =
    ordered_same c.args.found.items c.sort.new.self.items c.dedup.new.self.items c.in_ok-sort.ensures.permutation (dedup_is eqb _ _ c.dedup.ensures.filtered)

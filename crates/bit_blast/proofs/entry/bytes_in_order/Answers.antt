use Rattle.std.proofs.lemmas.List.Filters.{dedup_is}
use Rattle.bit_blast.proofs.Kept.{equal_pairs, ordered_pairs}
use Rattle.bit_blast.proofs.RisingPairs.{pairs_rise}
use Rattle.bit_blast.proofs.entry.bytes_in_order.Goals as goal

pub returns-clause-rise : goal.returns-clause-rise
returns-clause-rise c =
    pairs_rise c.requires.one.0 c.args.found.items c.sort.new.self.items c.dedup.new.self.items c.requires.one.1 c.in_ok-sort.ensures.permutation
    c.in_ok-sort.ensures.sorted
    (dedup_is equal_pairs _ _ c.dedup.ensures.filtered)

pub returns-clause-same : goal.returns-clause-same
returns-clause-same c =
    ordered_pairs c.args.found.items c.sort.new.self.items c.dedup.new.self.items c.in_ok-sort.ensures.permutation
    (dedup_is equal_pairs _ _ c.dedup.ensures.filtered)

use Rattle.std.specs.Prelude.{eqb}
use Rattle.std.proofs.lemmas.List.Filters.{dedup_is}
use Rattle.known_bytes.proofs.Ordered.{ordered_rise, rises}
use Rattle.condition_tests.proofs.programs.addresses.Goals as goal

pub returns : goal.returns
returns c =
    rises c.dedup.new.self.items
    (ordered_rise c.sort.new.self.items c.dedup.new.self.items c.in_ok-sort.ensures.sorted (dedup_is eqb _ _ c.dedup.ensures.filtered))

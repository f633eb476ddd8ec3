use Rattle.std.proofs.Common.{◌≡◌, map, take}
use Rattle.std.specs.Prelude.{filter}
use Rattle.frame_start.specs.Reads.{is_of, pair_at}
use Rattle.frame_start.proofs.reads.reads_of_part.Given as goal

abbrev pub invariant-loop-i : goal.invariant-loop-i
invariant-loop-i l = l.found.items ≡ map (pair_at l.addresses l.words l.bytes) (filter (is_of l.part) (take l.i l.reads))

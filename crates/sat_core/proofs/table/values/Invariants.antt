use Rattle.std.proofs.Common.{◌≡◌, map, take}
use Rattle.sat_core.specs.Tables.{is_set}
use Rattle.sat_core.proofs.table.values.Given as goal

abbrev pub invariant-loop-slot : goal.invariant-loop-slot
invariant-loop-slot l = l.list.items ≡ map is_set (take l.slot-index l.slot-items)

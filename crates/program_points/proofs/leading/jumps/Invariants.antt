use Rattle.std.proofs.Common.{◌≡◌, take}
use Rattle.std.specs.List.{filter_map}
use Rattle.program_points.specs.Tables.{way_end}
use Rattle.program_points.proofs.leading.jumps.Given as goal

abbrev pub invariant-loop-successor : goal.invariant-loop-successor
invariant-loop-successor l = l.found.items ≡ filter_map (way_end l.returns l.frame l.stack l.called) (take l.successor-index l.successor-items)

use Rattle.std.proofs.Common.{◌≡◌, take}
use Rattle.std.specs.List.{filter_map}
use Rattle.program_points.specs.Tables.{successor_end}
use Rattle.program_points.proofs.leading.ends.Given as goal

abbrev pub invariant-loop-successor : goal.invariant-loop-successor
invariant-loop-successor l = l.found.items ≡ filter_map (successor_end l.returns l.frame l.stack l.called) (take l.successor-index l.successor-items)

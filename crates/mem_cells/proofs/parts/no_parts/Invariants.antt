use Rattle.std.proofs.Common.{◌≡◌, [], replicate}
use Rattle.mem_cells.specs.Parts.{lists_of}
use Rattle.mem_cells.proofs.parts.no_parts.Given as goal

abbrev pub invariant-loop-address : goal.invariant-loop-address
invariant-loop-address l = lists_of l.parts.items ≡ replicate l._address []

use Rattle.std.proofs.Common.{◌≡◌, ◌++◌, drop}
use Rattle.mem_cells.specs.Parts.{lists_of, reads_from}
use Rattle.mem_cells.proofs.parts.reads_of.Given as goal

abbrev pub invariant-loop-address : goal.invariant-loop-address
invariant-loop-address l = l.reads.items ++ reads_from l.address (lists_of (drop l.address l.parts)) ≡ reads_from 0 (lists_of l.parts)

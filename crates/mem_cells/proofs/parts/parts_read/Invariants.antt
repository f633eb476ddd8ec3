use Rattle.std.proofs.Common.{length}
use Rattle.mem_cells.specs.Parts.{lists_of}
use Rattle.mem_cells.proofs.PartReads.{AreNoted}
use Rattle.mem_cells.proofs.parts.parts_read.Given as goal

abbrev pub invariant-loop-place : goal.invariant-loop-place
invariant-loop-place l = AreNoted l.build.dag l.place (length l.build.addresses.items) (lists_of l.parts.items)

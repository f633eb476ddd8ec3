use Rattle.std.proofs.Common.{ℕ, map}
use Rattle.mem_cells.specs.FrameViews.{read_of}
use Rattle.bit_blast.specs.Places.{lists_of, number_in}
use Rattle.bit_blast.proofs.ReadNumbers.{AreFirst}
use Rattle.bit_blast.proofs.laying.part_reads.Given as goal

abbrev pub invariant-loop-i : goal.invariant-loop-i
invariant-loop-i l = (part : ℕ) → AreFirst part l.addresses (map read_of l.reads) l.i (map (number_in part) (lists_of l.found.items))

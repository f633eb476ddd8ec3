use Rattle.std.proofs.Common.{◌≡◌, ◌++◌, drop}
use Rattle.mem_cells.specs.Parts.{reads_at}
use Rattle.mem_cells.proofs.parts.and_reads.Given as goal

abbrev pub invariant-loop-place : goal.invariant-loop-place
invariant-loop-place l = l.reads.items ++ reads_at (drop l.place l.parts) l.address ≡ l.fn.reads.items ++ reads_at l.parts l.address

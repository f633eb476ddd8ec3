use Rattle.std.proofs.Common.{◌≡◌, ◌++◌, drop, take}
use Rattle.mem_cells.specs.Parts.{and_part}
use Rattle.mem_cells.proofs.parts.add_part.Given as goal

abbrev pub invariant-loop-place : goal.invariant-loop-place
invariant-loop-place l = record {
  same : l.parts.items ≡ l.fn.parts.items;
  rest : take l.place l.parts.items ++ and_part (drop l.place l.parts.items) l.part ≡ and_part l.parts.items l.part;
}

use Rattle.std.proofs.Common.{◌≡◌, ◌*◌, ◌-◌, length}
use Rattle.mem_cells.specs.Building.{Grown, read_places}
use Rattle.mem_cells.specs.Ties.{AreTies, AreSums, Before}
use Rattle.mem_cells.specs.Parts.{lists_of, KeepsParts}
use Rattle.mem_cells.proofs.ties.agreements.Given as goal

abbrev pub invariant-loop-other : goal.invariant-loop-other
invariant-loop-other l = record {
  grown : Grown l.fn.build l.build (16 * (l.other * (l.other - 1))) 0;
  count : length l.sums.items ≡ length (read_places l.build);
  sums : AreSums l.build l.sums.items;
  kept : KeepsParts l.fn.build l.build;
  ties : AreTies l.build (lists_of l.parts) l.agrees.items (Before l.other 0);
}

use Rattle.std.proofs.Common.{◌*◌}
use Rattle.mem_cells.specs.Building.{Grown}
use Rattle.mem_cells.specs.Ties.{AreTies, Before}
use Rattle.mem_cells.specs.Parts.{lists_of, KeepsParts}
use Rattle.mem_cells.proofs.ties.row.Given as goal

abbrev pub invariant-loop-read : goal.invariant-loop-read
invariant-loop-read l = record {
  grown : Grown l.fn.build l.build (32 * l.read) 0;
  kept : KeepsParts l.fn.build l.build;
  ties : AreTies l.build (lists_of l.parts) l.agrees.items (Before l.other l.read);
}

use Rattle.std.proofs.Common.{◌*◌, take, length}
use Rattle.mem_cells.specs.Building.{Grown, read_places}
use Rattle.mem_cells.specs.Asked.{AreAsked, AskedOf}
use Rattle.mem_cells.specs.Parts.{lists_of, KeepsParts}
use Rattle.mem_cells.proofs.asking.ask_bytes.Given as goal

abbrev pub invariant-loop-place : goal.invariant-loop-place
invariant-loop-place l = record {
  grown : Grown l.fn.build l.build (32 * (length (read_places l.fn.build) * l.place)) 0;
  kept : KeepsParts l.fn.build l.build;
  said : AreAsked l.build (lists_of l.parts) l.file l.asked.items (AskedOf (length (read_places l.build)) (take l.place l.file));
}

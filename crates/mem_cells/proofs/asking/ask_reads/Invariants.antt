use Rattle.std.proofs.Common.{◌*◌, take, length}
use Rattle.mem_cells.specs.Building.{Grown, IsWord, read_places}
use Rattle.mem_cells.specs.Asked.{file_byte_at, AreAsked, AskedTo}
use Rattle.mem_cells.specs.Parts.{lists_of, KeepsParts}
use Rattle.mem_cells.proofs.asking.ask_reads.Given as goal

abbrev pub invariant-loop-read : goal.invariant-loop-read
invariant-loop-read l = record {
  grown : Grown l.fn.build l.build (32 * l.read) 0;
  address : IsWord l.build.dag 32 l.address.0 (λ x. (file_byte_at l.file l.place).at);
  kept : KeepsParts l.fn.build l.build;
  said : AreAsked l.build (lists_of l.parts) l.file l.asked.items (AskedTo (length (read_places l.build)) (take l.place l.file) (file_byte_at l.file l.place) l.read);
}

use Rattle.std.proofs.Common.{◌≡◌, ◌*◌, ◌+◌, List, ◌++◌, length}
use Rattle.word_spec.specs.Memory.{endian}
use Rattle.mem_cells.specs.declared.pieces.StoredByte.{StoredByte}
use Rattle.mem_cells.specs.Building.{Grown, IsWritten}
use Rattle.mem_cells.proofs.stores.store.Given as goal

abbrev pub invariant-loop-place : goal.invariant-loop-place
invariant-loop-place l = record {
  grown : Grown l.fn.build l.build (l.place * 64) 0;
  pieces : l.memories.pieces.items ≡ l.fn.memories.pieces.items;
  more : (rest : List StoredByte) × (l.memories.stored.items ≡ l.fn.memories.stored.items ++ rest);
  count : length l.memories.stored.items ≡ l.first + l.place;
  written : IsWritten l.fn.build l.build l.memories.stored.items l.first l.place l.address.0 l.value.0 l.bytes (endian l.big);
}

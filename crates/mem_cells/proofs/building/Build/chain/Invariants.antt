use Rattle.std.proofs.Common.{◌≡◌, ℕ, ◌<◌, true, take, length}
use Rattle.std.specs.Prelude.{sum_by}
use Rattle.mem_cells.specs.Pieces.{bool_at, link, piece_gates}
use Rattle.mem_cells.specs.Building.{Grown, IsByteOf}
use Rattle.mem_cells.proofs.building.Build.chain.Given as goal

abbrev pub invariant-loop-q : goal.invariant-loop-q
invariant-loop-q l = record {
  grown : Grown l.fn.self l.self (sum_by piece_gates (take l.q l.memories.pieces.items)) 0;
  count : length l.chain.items ≡ l.q;
  links : (p : ℕ) → p < l.q → bool_at l.marks p ≡ true → IsByteOf l.fn.self l.self l.memories.stored.items l.memories.pieces.items p l.address.0
      (link l.chain.items p);
}

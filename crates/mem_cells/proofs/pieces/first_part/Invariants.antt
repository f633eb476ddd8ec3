use Rattle.std.proofs.Common.{◌≡◌, ℕ, ◌<◌, true}
use Rattle.std.specs.Prelude.{Some}
use Rattle.mem_cells.specs.Pieces.{bool_at, part_read, piece_at}
use Rattle.mem_cells.proofs.pieces.first_part.Given as goal

abbrev pub invariant-loop-q : goal.invariant-loop-q
invariant-loop-q l = (i p : ℕ) → i < l.q → bool_at l.marks i ≡ true → part_read l.address (piece_at l.pieces i) ≡ Some p → ⊥

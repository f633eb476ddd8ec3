use Rattle.std.proofs.Common.{◌≡◌, ◌≤◌, ◌+◌, true, length}
use Rattle.mem_cells.specs.Pieces.{bool_at, AreClosed}
use Rattle.mem_cells.proofs.pieces.marked.Given as goal

abbrev pub invariant-loop-left : goal.invariant-loop-left
invariant-loop-left l = record {
  count : length l.marks.items ≡ l.top + 1;
  within : l.left ≤ l.top + 1;
  top : bool_at l.marks.items l.top ≡ true;
  closed : AreClosed l.marks.items l.pieces l.address l.left;
}

abbrev pub decreases-loop-left : goal.decreases-loop-left
decreases-loop-left l = l.left

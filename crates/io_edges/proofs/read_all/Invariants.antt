use Rattle.std.proofs.Common.{◌≡◌, ℕ, ◌-◌, ◌≤◌, List, [], ◌∷◌, length, vec_len}
use Rattle.io_edges.specs.Begun.{AreBegun}
use Rattle.io_edges.proofs.Beginning.{NoneFrom}
use Rattle.io_edges.proofs.Fronts.{IsFront}
use Rattle.io_edges.proofs.read_all.Given as goal

abbrev pub invariant-loop-count : goal.invariant-loop-count
invariant-loop-count g l = record {
  keeps : (n : List ℕ) → g.H.Shelf.holds l.shelf n ≡ g.H.Shelf.holds l.fn.shelf n;
  steady : (n : List ℕ) → g.H.Shelf.faults l.shelf n ≡ g.H.Shelf.faults l.fn.shelf n;
  front : IsFront (g.H.Shelf.holds l.fn.shelf l.name) l.bytes.items;
  begun : AreBegun (g.H.Shelf.begun l.fn.shelf) (g.H.Shelf.begun l.shelf) (l.name ∷ []);
  none : NoneFrom (g.H.Shelf.begun l.fn.shelf) (g.H.Shelf.begun l.shelf) (length l.bytes.items);
  room : length l.piece ≡ 65536;
  within : vec_len l.bytes ≤ l.limit;
}

abbrev pub decreases-loop-count : goal.decreases-loop-count
decreases-loop-count g l = l.limit - vec_len l.bytes

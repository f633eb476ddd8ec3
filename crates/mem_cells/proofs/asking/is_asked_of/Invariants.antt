use Rattle.std.proofs.Common.{◌≡◌, drop}
use Rattle.mem_cells.specs.Asked.{parts_asked}
use Rattle.mem_cells.proofs.asking.is_asked_of.Given as goal

abbrev pub invariant-loop-place : goal.invariant-loop-place
invariant-loop-place l = parts_asked l.parts l.byte ≡ parts_asked (drop l.place l.parts) l.byte

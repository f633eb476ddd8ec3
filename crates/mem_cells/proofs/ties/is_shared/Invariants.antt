use Rattle.std.proofs.Common.{◌≡◌, drop}
use Rattle.mem_cells.specs.Ties.{shared}
use Rattle.mem_cells.proofs.ties.is_shared.Given as goal

abbrev pub invariant-loop-place : goal.invariant-loop-place
invariant-loop-place l = shared l.parts l.others ≡ shared (drop l.place l.parts) l.others

use Rattle.std.proofs.Common.{◌≡◌, ◌++◌, drop}
use Rattle.mem_cells.specs.Ties.{agreements_of, shared}
use Rattle.mem_cells.proofs.ties.agree.Given as goal

abbrev pub invariant-loop-place : goal.invariant-loop-place
invariant-loop-place l = l.agrees.items ++ agreements_of (shared (drop l.place l.parts) l.others) l.condition l.read l.other ≡ l.fn.agrees.items ++ agreements_of (shared l.parts l.others) l.condition l.read l.other

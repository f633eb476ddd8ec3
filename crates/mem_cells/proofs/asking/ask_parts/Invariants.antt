use Rattle.std.proofs.Common.{◌≡◌, ◌++◌, drop}
use Rattle.mem_cells.specs.Asked.{asked_of_parts, parts_asked}
use Rattle.mem_cells.proofs.asking.ask_parts.Given as goal

abbrev pub invariant-loop-place : goal.invariant-loop-place
invariant-loop-place l = l.asked.items ++ asked_of_parts (parts_asked (drop l.place l.parts) l.byte) l.condition l.read l.byte.byte ≡ l.fn.asked.items ++ asked_of_parts (parts_asked l.parts l.byte) l.condition l.read l.byte.byte

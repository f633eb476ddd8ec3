use Rattle.table_run.specs.Known.{FillsTo}
use Rattle.table_run.proofs.memory.fill.Given as goal

abbrev pub invariant-loop-i : goal.invariant-loop-i
invariant-loop-i l = FillsTo l.part l.i l.fn.memory.entries l.memory.entries

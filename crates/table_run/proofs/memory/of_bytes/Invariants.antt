use Rattle.table_run.specs.Known.{HasFirst}
use Rattle.table_run.proofs.memory.of_bytes.Given as goal

abbrev pub invariant-loop-i : goal.invariant-loop-i
invariant-loop-i l = HasFirst l.bytes l.i l.memory.entries

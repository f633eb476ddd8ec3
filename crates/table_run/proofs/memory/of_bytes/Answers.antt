use Rattle.std.proofs.Common.{arith}
use Rattle.table_run.proofs.Memories.{first_more}
use Rattle.table_run.proofs.memory.of_bytes.Goals as goal

pub loop-i-preserved : goal.loop-i-preserved
loop-i-preserved c =
    first_more c.args.bytes.now c.loop-i.memory.entries c.put.new.memory.entries c.loop-i.i _ c.requires (omega arith) (omega arith) c.loop-i.invariant
    c.in_ok-put.ensures

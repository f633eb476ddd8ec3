use Rattle.std.proofs.Common.{arith}
use Rattle.table_run.proofs.Memories.{put_of}
use Rattle.table_run.proofs.memory.put.Goals as goal

pub returns : goal.returns
returns c = put_of c.args.memory.now.entries c.store.new.self.entries c.args.a c.args.value c.new.result.bits (omega arith)
    (omega arith) c.new.ensures.bits c.in_ok-store.ensures.ok

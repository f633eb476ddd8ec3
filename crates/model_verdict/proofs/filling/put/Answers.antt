use Rattle.std.proofs.Common.{arith}
use Rattle.bit_blast.proofs.StoredBytes.{put_of}
use Rattle.model_verdict.proofs.filling.put.Goals as goal

pub returns : goal.returns
returns c =
    put_of c.args.memory.now.entries c.store.new.self.entries c.args.a c.args.value c.new.result.bits (omega arith)
    (omega arith) c.new.ensures.bits c.in_ok-store.ensures.ok

use Rattle.std.proofs.Common.{arith}
use Rattle.bit_blast.proofs.StoredBytes.{put_of, put_small}
use Rattle.bit_blast.proofs.memories.put.Goals as goal

pub returns : goal.returns
returns c =
    let e = put_of c.args.memory.now.entries c.store.new.self.entries c.args.a c.args.value c.new.result.bits (omega arith)
    (omega arith) c.new.ensures.bits c.in_ok-store.ensures.ok in
    record { value = e; below = put_small c.args.memory.now.entries c.store.new.self.entries c.args.a c.args.value (omega arith) e }

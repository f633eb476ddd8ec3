use Rattle.std.proofs.Common.{ap, arith}
use Rattle.byte_mem.specs.Kept.{Contents}
use Rattle.byte_mem.proofs.Gaps.{less_room}
use Rattle.byte_mem.proofs.bytes.Bytes32.store_reserved.Goals as goal

pub invariant_of-self : goal.invariant_of-self
invariant_of-self c = record {
  memory = c.put_number.ensures.memory;
  spare = c.put_number.ensures.room _ (less_room _ _ _ (let room = c.requires.room in let is = ap (λ (v : Contents). v.spare) c.self.view_is
      in omega arith) c.self.invariant.spare);
}

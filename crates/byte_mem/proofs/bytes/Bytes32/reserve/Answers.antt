use Rattle.std.proofs.Common.{sym, subst}
use Rattle.byte_mem.specs.Puts.{IsMemory}
use Rattle.byte_mem.proofs.bytes.Bytes32.reserve.Goals as goal

pub invariant_of-self : goal.invariant_of-self
invariant_of-self c = record {
  memory = subst IsMemory (sym c.make_room.ensures.entries) c.self.invariant.memory;
  spare = c.make_room.ensures.kept _ c.self.invariant.spare;
}

use Rattle.std.proofs.Common.{arith, length-drop}
use Rattle.std.proofs.lemmas.List.{length-take}
use Rattle.byte_mem.proofs.Gaps.{less_room}
use Rattle.byte_mem.proofs.Numbers.{stores_low, stores_high}
use Rattle.byte_mem.proofs.bytes.put_number.Goals as goal

pub returns-in-Little-clause-stores : goal.returns-in-Little-clause-stores
returns-in-Little-clause-stores c = rw c.in-Little.is (stores_low _ _ _ _ _ _ c.requires.few c.to_le_bytes.ensures c.put_bytes.ensures.puts)

pub returns-in-Big-clause-stores : goal.returns-in-Big-clause-stores
returns-in-Big-clause-stores c = rw c.in-Big.is (stores_high _ _ _ _ _ _ c.requires.few c.to_be_bytes.ensures c.put_bytes-in-Big.ensures.puts)

pub returns-in-Little-clause-room : goal.returns-in-Little-clause-room
returns-in-Little-clause-room c m room = c.put_bytes.ensures.room m (less_room _ _ _ (simp (length-take) (omega arith)) room)

pub returns-in-Big-clause-room : goal.returns-in-Big-clause-room
returns-in-Big-clause-room c m room = c.put_bytes-in-Big.ensures.room m (less_room _ _ _ (simp (length-take, length-drop) (omega arith)) room)

use Rattle.std.proofs.Common.{ℕ, ◌+◌, ◌-◌, length}
use Rattle.byte_mem.specs.Gaps.{entries_of, HasRoom}
use Rattle.byte_mem.specs.Puts.{IsMemory, PutsTo}
use Rattle.byte_mem.proofs.bytes.put_bytes.Given as goal

abbrev pub invariant-loop-i : goal.invariant-loop-i
invariant-loop-i l = record {
  puts : PutsTo (entries_of l.fn.g) l.first l.bytes l.i (entries_of l.g);
  memory : IsMemory (entries_of l.g);
  room : (n : ℕ) → HasRoom l.fn.g (n + length l.bytes) → HasRoom l.g (n + (length l.bytes - l.i));
}

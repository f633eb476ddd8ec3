use Rattle.std.proofs.Common.{◌≡◌, ℕ, ◌-◌, drop, length}
use Rattle.word_spec.specs.Memory.{memory_of}
use Rattle.bit_blast.specs.Stored.{AreBytes}
use Rattle.bit_blast.proofs.memories.of_bytes.Given as goal

abbrev pub invariant-loop-i : goal.invariant-loop-i
invariant-loop-i l = record {
  value : (x : ℕ) → memory_of l.memory.entries x ≡ memory_of (drop (length l.bytes - l.i) l.bytes) x;
  below : AreBytes (memory_of l.memory.entries);
}

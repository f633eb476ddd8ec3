use Rattle.std.proofs.Common.{◌≡◌, ℕ}
use Rattle.word_spec.specs.Words.{word}
use Rattle.word_spec.specs.Memory.{memory_of}
use Rattle.bit_blast.specs.Stored.{AreBytes, filled}
use Rattle.bit_blast.proofs.memories.fill.Given as goal

abbrev pub invariant-loop-i : goal.invariant-loop-i
invariant-loop-i l = record {
  value : (x : ℕ) → memory_of l.memory.entries x ≡ filled l.run l.i (word 32 x) (memory_of l.fn.memory.entries x);
  below : AreBytes (memory_of l.fn.memory.entries) → AreBytes (memory_of l.memory.entries);
}

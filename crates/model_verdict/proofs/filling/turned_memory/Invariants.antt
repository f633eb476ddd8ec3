use Rattle.std.proofs.Common.{◌≡◌, ℕ, ◌-◌, drop, length}
use Rattle.word_spec.specs.Memory.{memory_of}
use Rattle.model_verdict.specs.Models.{turned}
use Rattle.model_verdict.proofs.filling.turned_memory.Given as goal

abbrev pub invariant-loop-i : goal.invariant-loop-i
invariant-loop-i l = (x : ℕ) → memory_of l.memory.entries x ≡ memory_of (drop (length l.bytes - l.i) (turned l.fill l.bytes)) x

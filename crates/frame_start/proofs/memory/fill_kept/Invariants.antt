use Rattle.std.proofs.Common.{◌≡◌, ℕ, map}
use Rattle.word_spec.specs.Words.{word}
use Rattle.word_spec.specs.Memory.{memory_of}
use Rattle.question_form.specs.Views.{kept_of}
use Rattle.bit_blast.specs.Stored.{AreBytes}
use Rattle.frame_start.specs.Kept.{filled_kept}
use Rattle.frame_start.proofs.memory.fill_kept.Given as goal

abbrev pub invariant-loop-i : goal.invariant-loop-i
invariant-loop-i l = record {
  value : (x : ℕ) → memory_of l.memory.entries x ≡ filled_kept (map kept_of l.kept) l.run l.i (word 32 x) (memory_of l.fn.memory.entries x);
  below : AreBytes (memory_of l.fn.memory.entries) → AreBytes (memory_of l.memory.entries);
}

use Rattle.std.proofs.Common.{◌≡◌, ℕ, ◌-◌, drop, length, map, None}
use Rattle.std.specs.Prelude.{if◌then◌else◌}
use Rattle.word_spec.specs.Words.{word}
use Rattle.word_spec.specs.Memory.{memory_of}
use Rattle.machine_spec.specs.StateText.{known_or}
use Rattle.walk_spec.specs.Unrolled.{byte_of_runs, is_in}
use Rattle.known_bytes.specs.Runs.{run_of}
use Rattle.question_form.specs.Views.{kept_of}
use Rattle.bit_blast.specs.Stored.{AreBytes}
use Rattle.frame_start.proofs.memory.head_memory.Given as goal

abbrev pub invariant-loop-i : goal.invariant-loop-i
invariant-loop-i l = record {
  value : (x : ℕ) → memory_of l.memory.entries x
      ≡ known_or (if is_in (map kept_of l.kept) (word 32 x)
      then byte_of_runs (map run_of (drop (length l.runs - l.i) l.runs)) (word 32 x) else None) l.bytes x;
  below : AreBytes (memory_of l.memory.entries);
}

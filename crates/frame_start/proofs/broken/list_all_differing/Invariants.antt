use Rattle.std.proofs.Common.{◌≡◌, ◌++◌, ℕ, map, take}
use Rattle.std.specs.Prelude.{filter}
use Rattle.question_form.specs.FrameViews.{frame_unrolled_of}
use Rattle.frame_start.specs.Files.{differs}
use Rattle.frame_start.proofs.broken.list_all_differing.Given as goal

abbrev pub invariant-loop-i : goal.invariant-loop-i
invariant-loop-i l =
    l.found.items ≡ l.fn.found.items ++ map (λ (x : ℕ × ℕ). x.0) (filter (differs (frame_unrolled_of l.unrolled) l.part) (take l.i l.reads))

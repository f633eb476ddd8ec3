use Rattle.std.proofs.Common.{◌≡◌, take}
use Rattle.std.specs.Prelude.{filter}
use Rattle.question_form.specs.FrameViews.{frame_unrolled_of}
use Rattle.frame_start.specs.Files.{is_free_at}
use Rattle.frame_start.proofs.parts.free_reads.Given as goal

abbrev pub invariant-loop-i : goal.invariant-loop-i
invariant-loop-i l = l.found.items ≡ filter (is_free_at (frame_unrolled_of l.unrolled) l.part) (take l.i l.reads)

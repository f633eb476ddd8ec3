use Rattle.std.proofs.Common.{◌≤◌, ◌+◌, ◌^◌}
use Rattle.question_form.specs.FrameViews.{frame_unrolled_of}
use Rattle.bit_blast.specs.Places.{lists_of}
use Rattle.bit_blast.specs.Laid.{AreGifts}
use Rattle.bit_blast.proofs.laying.gifts_of.Given as goal

abbrev pub invariant-loop-i : goal.invariant-loop-i
invariant-loop-i l =
    AreGifts (frame_unrolled_of l.unrolled) l.first l.i (lists_of l.gifts.registers.items) (lists_of l.gifts.flags.items) l.gifts.behind
    × (l.gifts.behind ≤ 2 ^ 30 + 2048)

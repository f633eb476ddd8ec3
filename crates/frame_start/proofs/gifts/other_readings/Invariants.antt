use Rattle.question_form.specs.FrameViews.{frame_unrolled_of}
use Rattle.frame_start.specs.Changes.{AreOthers}
use Rattle.frame_start.proofs.gifts.other_readings.Given as goal

abbrev pub invariant-loop-place : goal.invariant-loop-place
invariant-loop-place l =
    AreOthers (frame_unrolled_of l.unrolled) l.places l.values l.addresses l.place l.fn.head l.gifts l.others.items

use Rattle.frame_start.specs.Segments.{AreGiftsOf}
use Rattle.frame_start.proofs.parts.gifts_of.Given as goal

abbrev pub invariant-loop-place : goal.invariant-loop-place
invariant-loop-place l = AreGiftsOf l.e.celled.now l.e.values.now l.place l.gifts.items

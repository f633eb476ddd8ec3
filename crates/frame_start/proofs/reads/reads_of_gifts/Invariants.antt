use Rattle.frame_start.specs.Reads.{AreGiftsReads}
use Rattle.frame_start.proofs.reads.reads_of_gifts.Given as goal

abbrev pub invariant-loop-place : goal.invariant-loop-place
invariant-loop-place l = AreGiftsReads l.c l.words l.others l.place l.gifts.items

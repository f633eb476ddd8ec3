use Rattle.frame_start.proofs.SegmentLists.{listed_more}
use Rattle.frame_start.proofs.reads.reads_of_gifts.Goals as goal

pub loop-place-preserved : goal.loop-place-preserved
loop-place-preserved c =
    listed_more c.args.c.now c.args.words.now c.args.others.now c.loop-place.place c.loop-place.gifts.items c.push.new.self.items
    c.in_ok-reads_of_gift.field-0 c.loop-place.invariant c.in_ok-push.ensures.items c.in_ok-reads_of_gift.ensures

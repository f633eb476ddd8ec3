use Rattle.frame_start.proofs.SegmentLists.{gifts_more}
use Rattle.frame_start.proofs.parts.gifts_of.Goals as goal

pub loop-place-preserved : goal.loop-place-preserved
loop-place-preserved c =
    gifts_more c.args.e.now.celled.now c.args.e.now.values.now c.loop-place.place c.loop-place.gifts.items c.push.new.self.items c.in_ok-gift_of.field-0
    c.loop-place.invariant c.in_ok-push.ensures.items c.in_ok-gift_of.ensures

use Rattle.std.proofs.Common.{◌+◌, arith}
use Rattle.question_form.specs.FrameViews.{frame_unrolled_of}
use Rattle.frame_start.specs.Changes.{gift_in}
use Rattle.frame_start.proofs.GiftInputs.{gift_is, named_at}
use Rattle.frame_start.proofs.gifts.gift_reading.Goals as goal

pub gift_inputs-requires-clause-named : goal.gift_inputs-requires-clause-named
gift_inputs-requires-clause-named c =
    named_at (frame_unrolled_of c.args.unrolled.now) c.args.places.now c.requires.named c.args.place (c.args.place + 2) (omega arith)
    c.in-Some.changed c.in-Some.ensures

pub returns-in-None : goal.returns-in-None
returns-in-None c g at = absurd (c.in-None.ensures g at)

pub returns-in_ok-reading-in-Some : goal.returns-in_ok-reading-in-Some
returns-in_ok-reading-in-Some c =
    gift_is (frame_unrolled_of c.args.unrolled.now) c.args.places.now c.args.values.now c.args.place (c.args.place + 2) c.args.addresses c.in-Some.changed
    (omega arith) c.in-Some.ensures c.in_ok-reading-in-Some.reading c.in_ok-memory-in-Some.memory.entries (gift_in c.args.gifts.now c.args.place).bytes
    c.in_ok-reading-in-Some.ensures.has c.in_ok-reading-in-Some.ensures.memory c.in_ok-reading-in-Some.ensures.fill c.in_ok-memory-in-Some.ensures.value c.in_ok-memory-in-Some.ensures.below
    c.in_ok-reading-in-Some.ensures.base

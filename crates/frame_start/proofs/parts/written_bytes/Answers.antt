use Rattle.question_form.specs.FrameViews.{frame_unrolled_of}
use Rattle.frame_start.proofs.WrittenParts.{free_one, written_bytes_are}
use Rattle.frame_start.proofs.parts.written_bytes.Goals as goal

pub bytes_in_order-requires : goal.bytes_in_order-requires
bytes_in_order-requires c = record {
  one = free_one (frame_unrolled_of c.args.unrolled.now) c.args.part c.args.reads.now c.in_ok-free.free.items c.in_ok-free.ensures c.requires.one;
}

pub returns : goal.returns
returns c =
    written_bytes_are (frame_unrolled_of c.args.unrolled.now) c.args.part c.args.reads.now c.in_ok-free.free.items c.in_ok-ordered.ordered.items
    c.not_zero.result.items c.in_ok-free.ensures c.in_ok-ordered.ensures.same c.in_ok-ordered.ensures.rise c.not_zero.ensures

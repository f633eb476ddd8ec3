use Rattle.std.proofs.Common.{arith}
use Rattle.question_form.specs.FrameViews.{frame_unrolled_of}
use Rattle.frame_verdict.proofs.SegmentParts.{call_here, call_past, copied}
use Rattle.frame_verdict.proofs.segments.call_at.Goals as goal

pub returns-then-place-len : goal.returns-then-place-len
returns-then-place-len c =
    let past = c.if-place-len.true in
    let of = c.len.ensures in
    let count = c.args.parts.now.gifts.ok.0 in
    call_past (frame_unrolled_of c.args.unrolled.now) c.args.parts.now c.args.step c.args.place c.address_at-at.result c.address_at-at.ensures
    (omega (arith, past, of, count)) c.new-regs.result.items c.new-bytes.result.items c.new-regs.ensures.items c.new-bytes.ensures.items

pub returns : goal.returns
returns c =
    let inside = c.if-place-len.false in
    let of = c.len.ensures in
    let count = c.args.parts.now.gifts.ok.0 in
    call_here (frame_unrolled_of c.args.unrolled.now) c.args.parts.now c.args.step c.args.place c.address_at-at.result c.address_at-at.ensures
    (omega (arith, inside, of, count)) c.index-gift.result.now c.index-gift.ensures c.extend_from_slice.new.self.items c.extend_from_slice-2.new.self.items
    (copied c.extend_from_slice.new.self.items c.new-regs.result.items c.deref.result.now c.index-gift.result.now.regs.items
    c.in_ok-extend_from_slice.ensures.items c.new-regs.ensures.items c.deref.ensures.value)
    (copied c.extend_from_slice-2.new.self.items c.new-bytes.result.items c.deref-2.result.now c.index-gift.result.now.bytes.items
    c.in_ok-extend_from_slice-2.ensures.items c.new-bytes.ensures.items c.deref-2.ensures.value)

use Rattle.question_form.specs.FrameViews.{frame_unrolled_of}
use Rattle.frame_start.proofs.WrittenParts.{broken_are}
use Rattle.frame_start.proofs.broken.broken_reads.Goals as goal

pub returns-clause-broken : goal.returns-clause-broken
returns-clause-broken c =
    let e = rw (c.deref.ensures.value, c.new-found.ensures.items) at c.in_ok-list_all_differing.ensures in
    let f = rw (c.deref-2.ensures.value) at (c.in_ok-list_all_differing-2).ensures in
    broken_are (frame_unrolled_of c.args.unrolled.now) c.args.reads.now c.list_all_differing.new.found.items
    (c.list_all_differing-2).new.found.items c.in_ok-at.at.items e f c.in_ok-at.ensures.same

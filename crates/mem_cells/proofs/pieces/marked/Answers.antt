use Rattle.std.proofs.Common.{refl, ◌∙◌, arith}
use Rattle.mem_cells.proofs.Marks.{marks_next}
use Rattle.mem_cells.proofs.pieces.marked.Goals as goal

pub loop-left-preserved-then-index : goal.loop-left-preserved-then-index
loop-left-preserved-then-index c =
    let v = c.loop-left.invariant in
    record {
      count = c.mark.ensures.count ∙ v.count;
      within = omega (arith, v.within);
      top = c.mark.ensures.more c.args.top v.top;
      closed = marks_next c.loop-left.marks.items c.mark.new.marks.items c.args.pieces.now c.args.address c.loop-left.left _ c.requires.rising
          (omega (arith, v.within, c.requires.top)) c.mark.ensures.count (omega (arith, c.loop-left-test.true)) refl c.mark.ensures.needs c.mark.ensures.more
          c.mark.ensures.below v.closed;
    }

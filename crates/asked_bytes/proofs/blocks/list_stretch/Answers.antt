use Rattle.asked_bytes.proofs.Found.{stretch_more}
use Rattle.asked_bytes.proofs.blocks.list_stretch.Goals as goal

pub loop-next-preserved : goal.loop-next-preserved
loop-next-preserved c = record {
  beside = c.in_ok-list_address.ensures.beside;
  kept = λ a has. c.in_ok-list_address.ensures.kept a (c.loop-next.invariant.kept a has);
  asked = λ runs. stretch_more c.args.known.now c.args.added.now c.args.from c.loop-next.next c.loop-next.found.items c.list_address.new.found.items
      (c.loop-next.invariant.asked runs) c.in_ok-list_address.ensures.kept (c.in_ok-list_address.ensures.asked runs);
}

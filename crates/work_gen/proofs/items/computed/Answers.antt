use Rattle.std.proofs.Common.{◌<◌, ◌∙◌, arith}
use Rattle.work_gen.proofs.Appends.{words_kept, result_kept}
use Rattle.work_gen.proofs.items.computed.Goals as goal

pub loop-left-preserved : goal.loop-left-preserved
loop-left-preserved c =
    let some : 0 < c.loop-left.left = omega (arith, c.loop-left-test.true) in
    record {
      small = c.next_item-item.ensures.small;
      words = words_kept c.loop-left.words.items c.push.new.self.items c.loop-left.item c.next_item-item.result c.item_word.result c.loop-left.left some
          c.next_item-item.ensures.next c.item_word.ensures
          c.in_ok-push.ensures.items ∙ c.loop-left.invariant.words;
      computes = result_kept c.loop-left.item c.next_item-item.result c.loop-left.a0 c.args.count c.result_of-a0.result c.loop-left.left some
          c.next_item-item.ensures.next c.result_of-a0.ensures
          ∙ c.loop-left.invariant.computes;
      len = omega (arith, c.in_ok-push.ensures.len, c.loop-left.invariant.len, some);
    }

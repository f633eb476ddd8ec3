use Rattle.std.proofs.Common.{◌≡◌, ◌++◌, ◌+◌, ◌<◌, ◌^◌, length}
use Rattle.command_spec.specs.Work as made
use Rattle.command_spec.specs.Work.{item_words, result_from}
use Rattle.work_gen.proofs.items.computed.Given as goal

abbrev pub invariant-loop-left : goal.invariant-loop-left
invariant-loop-left l =
    record {
      small : l.item < 2 ^ 31;
      words : l.words.items ++ item_words l.item l.left ≡ item_words l.seed l.count;
      computes : result_from l.item l.a0 l.count l.left ≡ made.result l.seed l.count;
      len : length l.words.items + l.left ≡ l.count;
    }

abbrev pub decreases-loop-left : goal.decreases-loop-left
decreases-loop-left l = l.left

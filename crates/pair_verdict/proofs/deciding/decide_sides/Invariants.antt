use Rattle.std.proofs.Common.{◌^◌, ◌-◌, ◌+◌, length}
use Rattle.pair_verdict.specs.PairRounds.{AreAsked, first_placed, second_placed}
use Rattle.pair_verdict.proofs.deciding.decide_sides.Given as goal

abbrev pub invariant-loop-asked : goal.invariant-loop-asked
invariant-loop-asked l = AreAsked (first_placed l.fn.sides) (second_placed l.fn.sides) l.asked

abbrev pub decreases-loop-asked : goal.decreases-loop-asked
decreases-loop-asked l = 2 ^ 33 - (length l.asked.first.items + length l.asked.second.items)

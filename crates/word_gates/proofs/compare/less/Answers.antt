use Rattle.std.proofs.Common.{◌^◌, arith}
use Rattle.gates.proofs.Netlists.{bit_then}
use Rattle.word_gates.proofs.Places.{less_place}
use Rattle.word_gates.proofs.Words.{number_more, number_take_below}
use Rattle.word_gates.proofs.compare.less.Goals as goal

pub loop-i-preserved : goal.loop-i-preserved
loop-i-preserved c =
    let i = c.loop-i.i in
    let q = c.in_ok-less.ensures in
    record {
      made = bit_then _ c.loop-i.invariant.made.grows q.made (omega arith);
      value = λ v h.
          rw (
            number_more v c.args.a.now i (omega arith),
            number_more v c.args.b.now i (omega arith),
            less_place (2 ^ i) _ _ _ _
                (number_take_below v c.args.a.now i (omega arith)) (number_take_below v c.args.b.now i (omega arith)),
          )
          (rw (c.negation.ensures.value v, c.loop-i.invariant.value v (q.made.grows.keeps v h)) at (q.value v h));
    }

use Rattle.std.proofs.Common.{◌^◌, arith}
use Rattle.gates.specs.Circuits.{bit_value}
use Rattle.word_gates.proofs.Places.{choice_place}
use Rattle.word_gates.proofs.Words.{number_push_at, number_more, word_push}
use Rattle.word_gates.proofs.bitwise.choice.Goals as goal

pub loop-i-preserved : goal.loop-i-preserved
loop-i-preserved c =
    let i = c.loop-i.i in
    let q = c.in_ok-ite.ensures in
    record {
      made = rw c.in_ok-push.ensures.items (word_push _ c.loop-i.invariant.made q.made (omega arith));
      value = λ v h.
          rw (
            c.in_ok-push.ensures.items,
            number_more v c.args.a.now i (omega arith),
            number_more v c.args.b.now i
                (omega arith),
            number_push_at v _ _ i c.loop-i.invariant.made.len,
            q.value v h,
          )
          (choice_place (2 ^ i) _ _ _ (bit_value v c.args.c) _ _ (c.loop-i.invariant.value v (q.made.grows.keeps v h)));
    }

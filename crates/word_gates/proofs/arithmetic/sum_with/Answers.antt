use Rattle.std.proofs.Common.{arith}
use Rattle.gates.specs.Circuits.{IsBit}
use Rattle.gates.proofs.Netlists.{grows_then}
use Rattle.word_gates.proofs.Words.{number_more, word_push}
use Rattle.word_gates.proofs.Sums.{sum_step}
use Rattle.word_gates.proofs.arithmetic.sum_with.Goals as goal

pub loop-i-preserved : goal.loop-i-preserved
loop-i-preserved c =
    let i = c.loop-i.i in
    let p = c.in_ok-parity.ensures in
    let q = c.in_ok-carry.ensures in
    let w = c.loop-i.invariant.made in
    let t : IsBit c.loop-i.circuit c.majority.new.self 2 c.in_ok-parity.field-0 = record {
      grows = grows_then 2 p.made.grows q.made.grows
          (omega arith);
      within = let a = p.made.within in let b = q.made.grows.more in omega arith;
    } in
    record {
      made = rw c.in_ok-push.ensures.items (word_push _ w t (omega arith));
      carry_within = q.made.within;
      value = λ v h.
          rw (c.in_ok-push.ensures.items, number_more v c.args.a.now i (omega arith), number_more v c.args.b.now i (omega arith))
          (sum_step v _ _ _ _ _ _ i _ _ _ (c.loop-i.invariant.value v (p.made.grows.keeps v (q.made.grows.keeps v h))) w.len
          (p.value v (q.made.grows.keeps v h)) (q.value v h));
    }

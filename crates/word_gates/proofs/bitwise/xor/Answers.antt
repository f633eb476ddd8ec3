use Rattle.std.proofs.Common.{refl, arith}
use Rattle.gates.proofs.Netlists.{grows_none}
use Rattle.word_gates.proofs.Words.{within_none, word_push}
use Rattle.word_gates.proofs.EachBit.{xor_none, xor_step, xor_whole}
use Rattle.word_gates.proofs.bitwise.xor.Goals as goal

pub loop-i-init : goal.loop-i-init
loop-i-init c = record {
  made = record { grows = grows_none _ 0; within = rw c.in_ok-bits.ensures.items within_none; len = rw c.in_ok-bits.ensures.items refl };
  value = λ v h. xor_none v _ c.args.a.now c.args.b.now c.in_ok-bits.ensures.items;
}

pub loop-i-preserved : goal.loop-i-preserved
loop-i-preserved c =
    let i = c.loop-i.i in
    let q = c.in_ok-xor.ensures in
    record {
      made = rw c.in_ok-push.ensures.items (word_push _ c.loop-i.invariant.made q.made (omega arith));
      value = λ v h.
          rw c.in_ok-push.ensures.items
          (xor_step v _ _ _ c.args.a.now c.args.b.now i c.loop-i.invariant.made.len (omega arith) (omega arith) (q.value v h)
          (c.loop-i.invariant.value v (q.made.grows.keeps v h)));
    }

pub returns-clause-value : goal.returns-clause-value
returns-clause-value c = λ v h. xor_whole v _ c.args.a.now c.args.b.now c.loop-i.i _ (omega arith) (omega arith) (c.loop-i.invariant.value v h)

use Rattle.std.proofs.Common.{◌≡◌, ◌^◌, ◌∙◌, arith}
use Rattle.word_gates.proofs.Words.{pow_more, number_push_at, word_has}
use Rattle.word_gates.proofs.Constants.{constant_place, constant_whole}
use Rattle.word_gates.proofs.parts.constant.Goals as goal

pub loop-i-preserved : goal.loop-i-preserved
loop-i-preserved c =
    let i = c.loop-i._i in
    record {
      made = rw c.in_ok-push.ensures.items (word_has _ c.loop-i.invariant.made c.constant.ensures.within);
      value = λ v h. rw (c.in_ok-push.ensures.items, number_push_at v _ _ i c.loop-i.invariant.made.len, pow_more i)
          (constant_place (2 ^ i) c.loop-i.rest _ _ _ (c.loop-i.invariant.value v h) (c.constant.ensures.value v h));
    }

pub returns-clause-value : goal.returns-clause-value
returns-clause-value c = λ v h. constant_whole v _ c.args.width c.loop-i.rest _ (let e : c.loop-i._i
    ≡ c.args.width = omega arith in rw e at (c.loop-i.invariant.value v h)) (c.loop-i.invariant.made.len ∙ omega arith)

use Rattle.std.proofs.Common.{◌+◌, ◌^◌, ◌∙◌, ap, arith, length-append}
use Rattle.word_gates.proofs.Places.{not_place}
use Rattle.word_gates.proofs.Words.{no_bit, within_push, pow_more, number_push_at, number_more}
use Rattle.word_gates.proofs.Constants.{not_whole}
use Rattle.word_gates.proofs.parts.not.Goals as goal

pub loop-i-preserved : goal.loop-i-preserved
loop-i-preserved c =
    let i = c.loop-i.i in
    record {
      len = rw c.in_ok-push.ensures.items (length-append _ _ ∙ ap (λ k. k + 1) c.loop-i.invariant.len);
      within = λ n w. rw c.in_ok-push.ensures.items (within_push n _ (c.loop-i.invariant.within n w) (omega arith)
          (rw c.negation.ensures.variable (w.each i no_bit (omega arith))));
      value = λ v.
          rw (
            c.in_ok-push.ensures.items,
            number_more v c.args.a.now i
                (omega arith),
            number_push_at v _ _ i c.loop-i.invariant.len,
            c.negation.ensures.value v,
            pow_more i,
          )
          (not_place (2 ^ i) _ _ _ (c.loop-i.invariant.value v));
    }

pub returns-clause-value : goal.returns-clause-value
returns-clause-value c = λ v. not_whole v _ c.args.a.now c.loop-i.i (omega arith) (c.loop-i.invariant.value v)

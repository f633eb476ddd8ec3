use Rattle.std.proofs.Common.{refl}
use Rattle.word_gates.proofs.Words.{number_push_at, word_has}
use Rattle.word_gates.proofs.Constants.{input_more}
use Rattle.word_gates.proofs.parts.inputs.Goals as goal

pub loop-i-preserved : goal.loop-i-preserved
loop-i-preserved c =
    let i = c.loop-i.i in
    record {
      made = rw c.in_ok-push.ensures.items (word_has _ c.loop-i.invariant.made c.input.ensures.within);
      value = λ v. rw (
        c.in_ok-push.ensures.items,
        number_push_at v _ _ i c.loop-i.invariant.made.len,
        input_more v c.args.first i,
        c.loop-i.invariant.value v,
        c.input.ensures.value v,
      ) refl;
    }

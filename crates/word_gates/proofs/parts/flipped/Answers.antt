use Rattle.std.proofs.Common.{◌≡◌, ◌-◌, ◌^◌, length, take, arith}
use Rattle.word_gates.proofs.Places.{flip_place}
use Rattle.word_gates.proofs.Words.{no_bit, within_push, within_take, number_push_at, number_take_below, half_pow, number_top}
use Rattle.std.proofs.lemmas.Grind.{common_steps}
use Rattle.std.proofs.Common.{length-take}
use Rattle.word_gates.proofs.parts.flipped.Goals as goal

pub bits-are : (c : goal.In_ok-push) → c.in_ok-bits.bits.items ≡ take (length c.args.a.now - 1) c.args.a.now
bits-are c = grind (arith, common_steps)

pub returns-clause-within : goal.returns-clause-within
returns-clause-within c = λ n w.
    let k = length c.args.a.now - 1 in
    rw (c.in_ok-push.ensures.items, bits-are c) (within_push n _ (within_take k w) (omega arith)
    (rw c.negation.ensures.variable (w.each k no_bit (omega arith))))

pub returns-clause-value : goal.returns-clause-value
returns-clause-value c = λ v.
    let n = length c.args.a.now in
    let k = n - 1 in
    let l : length (take k c.args.a.now) ≡ k = grind (arith, length-take k c.args.a.now) in
    rw (
      c.in_ok-push.ensures.items,
      bits-are c,
      number_push_at v _ _ k l,
      c.negation.ensures.value v,
      half_pow n c.requires,
      number_top v c.args.a.now k
          (omega arith),
    )
    (flip_place (2 ^ k) _ _ (number_take_below v c.args.a.now k (omega arith)))

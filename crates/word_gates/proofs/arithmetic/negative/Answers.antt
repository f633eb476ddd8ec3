use Rattle.std.proofs.Common.{◌≡◌, ◌-◌, ◌^◌, ◌<◌, length, ◌∙◌, ap}
use Rattle.word_spec.specs.Words.{bit}
use Rattle.word_gates.specs.Numbers.{number}
use Rattle.word_gates.proofs.Constants.{zero_word}
use Rattle.word_gates.proofs.Words.{number_below}
use Rattle.word_gates.proofs.Sums.{negative_modulo}
use Rattle.word_gates.proofs.arithmetic.negative.Goals as goal

pub sum_with-requires-clause-b_within : goal.sum_with-requires-clause-b_within
sum_with-requires-clause-b_within c = rw c.deref-2.ensures.value (c.in_ok-turned.ensures.within _ c.requires)

pub returns-clause-value : goal.returns-clause-value
returns-clause-value c = λ v h.
    let n = length c.args.a.now in
    let zl : length c.deref.result.now ≡ n = ap length c.deref.ensures.value ∙ c.in_ok-zeros.ensures.made.len in
    let b = number_below v c.in_ok-sum.sum.bits.items in
    let l : number v c.in_ok-sum.sum.bits.items < 2 ^ n = rw (c.in_ok-sum.ensures.made.len, zl) at b in
    let k = c.in_ok-sum.ensures.made.grows.keeps v h in
    let o = c.constant-one.ensures.value v k in
    let z : number v c.deref.result.now ≡ 0 = ap (number v) c.deref.ensures.value ∙ (c.in_ok-zeros.ensures.value v k ∙ zero_word n) in
    let t : number v c.deref-2.result.now ≡ 2 ^ n - 1 - number v c.args.a.now = ap (number v) c.deref-2.ensures.value ∙ c.in_ok-turned.ensures.value v in
    negative_modulo (2 ^ n) _ _ _ _ _ _ (rw zl at (c.in_ok-sum.ensures.value v h)) z t (ap bit o) (number_below v c.args.a.now) l

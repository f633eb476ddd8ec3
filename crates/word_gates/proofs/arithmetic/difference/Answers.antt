use Rattle.std.proofs.Common.{◌≡◌, ◌-◌, ◌^◌, ◌<◌, length, sym, ◌∙◌, ap}
use Rattle.word_spec.specs.Words.{bit, complement}
use Rattle.word_gates.specs.Numbers.{number}
use Rattle.word_gates.proofs.Words.{number_below}
use Rattle.word_gates.proofs.Sums.{difference_modulo}
use Rattle.word_gates.proofs.arithmetic.difference.Goals as goal

pub sum_with-requires-clause-b_within : goal.sum_with-requires-clause-b_within
sum_with-requires-clause-b_within c = rw c.deref.ensures.value (c.in_ok-turned.ensures.within _ c.requires.b_within)

pub returns-clause-value : goal.returns-clause-value
returns-clause-value c = λ v h.
    let b = number_below v c.in_ok-sum.sum.bits.items in
    let l : number v c.in_ok-sum.sum.bits.items < 2 ^ length c.args.a.now = rw c.in_ok-sum.ensures.made.len at b in
    let n = length c.args.a.now in
    let e : length c.args.b.now ≡ n = sym c.requires.same in
    let o = c.constant-one.ensures.value v (c.in_ok-sum.ensures.made.grows.keeps v h) in
    let t : number v c.deref.result.now ≡ 2 ^ n - 1 - number v c.args.b.now = ap (number v) c.deref.ensures.value ∙ (c.in_ok-turned.ensures.value v ∙ ap
    (λ k. complement k (number v c.args.b.now)) e) in
    let d : number v c.args.b.now < 2 ^ n = let f = number_below v c.args.b.now in rw e at f in
    difference_modulo (2 ^ n) _ _ _ _ _ _ (c.in_ok-sum.ensures.value v h) t (ap bit o) d l

use Rattle.std.proofs.Common.{◌≡◌, length, take, ◌∙◌, ap, arith, length-take}
use Rattle.word_spec.specs.Words.{word}
use Rattle.word_gates.specs.Numbers.{number}
use Rattle.word_gates.proofs.Words.{number_take}
use Rattle.bit_blast.proofs.Divisors.{lower_product}
use Rattle.bit_blast.proofs.products.lower_bits.Goals as goal

pub returns-clause-value : goal.returns-clause-value
returns-clause-value c = λ v h.
    let a = c.args.a.now in
    let p = c.args.place in
    let k = c.in_ok-word.ensures.made.grows.keeps v h in
    let l : length (take p a) ≡ p = grind (arith, length-take p a) in
    let m : number v c.deref.result.now ≡ word p c.args.factor = ap (number v) c.deref.ensures.value ∙ c.in_ok-factor.ensures.value v k in
    rw (l, number_take v a p c.requires.within, m) at (c.in_ok-word.ensures.value v h) ∙ lower_product p (number v a) c.args.factor

use Rattle.std.proofs.Common.{◌≡◌, ◌+◌, ◌*◌, ◌%◌, ◌^◌, length, ◌∙◌, ap, arith}
use Rattle.word_spec.specs.Words.{mul}
use Rattle.word_gates.specs.Numbers.{number}
use Rattle.word_gates.proofs.Words.{word_then}
use Rattle.bit_blast.proofs.Divisors.{product_of_raised}
use Rattle.bit_blast.proofs.products.product_by_raised.Goals as goal

pub returns-clause-made : goal.returns-clause-made
returns-clause-made c =
    let w = length c.args.a.now in
    let l : length c.deref.result.now ≡ w = ap length c.deref.ensures.value ∙ c.in_ok-more.ensures.made.len in
    word_then (3 * w * w) w c.in_ok-more.ensures.made.grows c.in_ok-word.ensures.made (rw l (omega (arith, c.requires.gates))) l

pub returns-clause-value : goal.returns-clause-value
returns-clause-value c = λ v h.
    let x = number v c.args.a.now in
    let f = c.args.factor in
    let k = c.in_ok-word.ensures.made.grows.keeps v h in
    let long : length c.deref.result.now ≡ 64 = ap length c.deref.ensures.value ∙ (c.in_ok-more.ensures.made.len ∙ c.requires.wide) in
    let more : number v c.deref.result.now ≡ mul 64 x ((f + 2 ^ 32) % 2 ^ 64) = ap (number v) c.deref.ensures.value
    ∙ rw c.requires.wide at (c.in_ok-more.ensures.value v k) in
    let surplus : number v c.deref-2.result.now ≡ x % 2 ^ 32 * 2 ^ 32 = ap (number v) c.deref-2.ensures.value
    ∙ rw c.requires.wide at (c.in_ok-surplus.ensures.value v k) in
    rw c.requires.wide (rw (long, more, surplus) at (c.in_ok-word.ensures.value v h) ∙ product_of_raised x f)

use Rattle.std.proofs.Common.{◌≡◌, ◌%◌, ◌^◌, length, take, ◌∙◌, ap, arith}
use Rattle.word_spec.specs.Words.{word, magnitude}
use Rattle.word_gates.specs.Numbers.{number}
use Rattle.word_gates.proofs.Words.{number_take, word_then}
use Rattle.bit_blast.proofs.Divisors.{quotient_of_words}
use Rattle.bit_blast.proofs.SignedWords.{lowest_len, size_at}
use Rattle.bit_blast.proofs.products.size_quotient.Goals as goal

pub returns-clause-made : goal.returns-clause-made
returns-clause-made c =
    let n = c.args.bits in
    let l : length (take n c.args.a.now) ≡ n = lowest_len c.args.a.now n c.requires.within in
    let s : length c.deref.result.now ≡ n = ap length c.deref.ensures.value ∙ (c.in_ok-size.ensures.made.len ∙ l) in
    word_then _ n c.in_ok-size.ensures.made.grows c.in_ok-word.ensures.made (rw (l, s) (omega arith)) s

pub returns-clause-value : goal.returns-clause-value
returns-clause-value c = λ v h.
    let a = c.args.a.now in
    let n = c.args.bits in
    let d = c.args.divisor in
    let k = c.in_ok-word.ensures.made.grows.keeps v h in
    let l : length (take n a) ≡ n = lowest_len a n c.requires.within in
    let s : length c.deref.result.now ≡ n = ap length c.deref.ensures.value ∙ (c.in_ok-size.ensures.made.len ∙ l) in
    let size : number v c.deref.result.now ≡ magnitude n (number v a % 2 ^ n) = ap (number v) c.deref.ensures.value
    ∙ (rw (l, number_take v a n c.requires.within) at (c.in_ok-size.ensures.value v k) ∙ size_at v a n c.requires.some c.requires.within) in
    let divisor : number v c.deref-2.result.now ≡ word n d = ap (number v) c.deref-2.ensures.value ∙ c.in_ok-divisor.ensures.value v k in
    rw (s, size, divisor) at (c.in_ok-word.ensures.value v h) ∙ quotient_of_words n _ d c.requires.divides c.requires.divisor_below

use Rattle.std.proofs.Common.{◌≡◌, ◌+◌, ◌-◌, ◌*◌, ◌/◌, ◌%◌, ◌^◌, length, take, get_or, ◌∙◌, ap, arith}
use Rattle.word_spec.specs.Words.{mul, magnitude, is_negative}
use Rattle.gates.specs.Circuits.{bit_value}
use Rattle.gates.proofs.Netlists.{grows_then}
use Rattle.word_gates.specs.Numbers.{number, turned}
use Rattle.word_gates.proofs.Words.{no_bit, number_take, within_more}
use Rattle.bit_blast.proofs.Divisors.{divisor_fits, product_of_signed}
use Rattle.bit_blast.proofs.SignedWords.{lowest_len, sign_at}
use Rattle.bit_blast.proofs.products.product_by_reciprocal.Goals as goal

pub size_quotient-requires-clause-divisor_below : goal.size_quotient-requires-clause-divisor_below
size_quotient-requires-clause-divisor_below c = divisor_fits c.args.bits c.requires.some c.requires.is

pub returns-clause-made : goal.returns-clause-made
returns-clause-made c =
    let w = length c.args.a.now in
    let p = c.args.reciprocal.place in
    let n = c.args.bits in
    let lower = c.in_ok-lower.ensures.made in
    let quotient = c.in_ok-quotient.ensures.made in
    let upper = c.in_ok-upper.ensures.made in
    let long : length c.deref-2.result.now ≡ w = ap length c.deref-2.ensures.value ∙ c.in_ok-wide.ensures.made.len in
    let high : length (take (w - p) c.deref-2.result.now) ≡ w - p = lowest_len c.deref-2.result.now (w - p) (omega arith) in
    let parts = grows_then (3 * p * p + n * (3 * n + 5)) lower.grows quotient.grows (omega arith) in
    record {
      grows = grows_then _ parts upper.grows (rw high (omega arith));
      within = c.in_ok-word.ensures.within _ (rw c.deref-3.ensures.value upper.within)
          (rw c.deref-4.ensures.value (within_more _ lower.within (let q = quotient.grows.more in let u = upper.grows.more in omega arith)));
      len = c.in_ok-word.ensures.len
          ∙ (let a : length c.deref-3.result.now ≡ w - p = ap length c.deref-3.ensures.value ∙ (upper.len ∙ high) in
          let b : length c.deref-4.result.now ≡ p = ap length c.deref-4.ensures.value ∙ lower.len in
          omega (arith, c.requires.place));
    }

pub returns-clause-value : goal.returns-clause-value
returns-clause-value c = λ v h.
    let a = c.args.a.now in
    let w = length a in
    let p = c.args.reciprocal.place in
    let d = c.args.reciprocal.divisor in
    let n = c.args.bits in
    let x = number v a in
    let k = c.in_ok-upper.ensures.made.grows.keeps v h in
    let j = c.in_ok-quotient.ensures.made.grows.keeps v k in
    let low : length c.deref-4.result.now ≡ p = ap length c.deref-4.ensures.value ∙ c.in_ok-lower.ensures.made.len in
    let lower : number v c.deref-4.result.now ≡ mul p x c.args.factor = ap (number v) c.deref-4.ensures.value ∙ c.in_ok-lower.ensures.value v j in
    let long : length c.deref-2.result.now ≡ w = ap length c.deref-2.ensures.value ∙ c.in_ok-wide.ensures.made.len in
    let high : length (take (w - p) c.deref-2.result.now) ≡ w - p = lowest_len c.deref-2.result.now (w - p) (omega arith) in
    let whole : number v c.deref-2.result.now ≡ magnitude n (x % 2 ^ n) / d = ap (number v) c.deref-2.ensures.value
    ∙ (c.in_ok-wide.ensures.value v k ∙ (ap (number v) c.deref.ensures.value ∙ c.in_ok-quotient.ensures.value v k)) in
    let size : number v (take (w - p) c.deref-2.result.now) ≡ magnitude n (x % 2 ^ n) / d % 2 ^ (w - p) = number_take v _ (w - p) (omega arith)
    ∙ ap (λ z. z % 2 ^ (w - p)) whole in
    let sign : bit_value v (get_or a (n - 1) no_bit) ≡ is_negative n (x % 2 ^ n) = sign_at v a n c.requires.some c.requires.within in
    let upper : number v c.deref-3.result.now ≡ turned (w - p) (is_negative n (x % 2 ^ n)) (magnitude n (x % 2 ^ n) / d % 2 ^ (w - p)) =
    ap (number v) c.deref-3.ensures.value ∙ rw (high, sign, size) at (c.in_ok-upper.ensures.value v h) in
    rw (low, upper, lower) at (c.in_ok-word.ensures.value v)
    ∙ product_of_signed w n p x c.args.factor d c.requires.some c.requires.within c.requires.place (c.requires.a_signed v) c.requires.is

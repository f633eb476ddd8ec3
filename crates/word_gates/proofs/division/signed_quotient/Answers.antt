use Rattle.std.proofs.Common.{◌≡◌, ◌-◌, ◌^◌, ◌<◌, length, get_or, refl, sym, ◌∙◌, ap, arith}
use Rattle.word_spec.specs.Words.{differ, is_negative, magnitude, with_sign}
use Rattle.gates.specs.Circuits.{bit_value}
use Rattle.word_gates.specs.Numbers.{number}
use Rattle.word_gates.proofs.Words.{no_bit, number_below}
use Rattle.word_gates.proofs.Signs.{sign_bit}
use Rattle.word_gates.proofs.Constants.{zero_word}
use Rattle.word_gates.proofs.Quotients.{magnitude_is, sdiv_from}
use Rattle.word_gates.proofs.division.signed_quotient.Goals as goal

pub choice-requires-clause-b_within : goal.choice-requires-clause-b_within
choice-requires-clause-b_within c = rw c.deref-6.ensures.value (c.in_ok-ones.ensures.within _ (rw c.deref-4.ensures.value c.in_ok-zeros.ensures.made.within))

pub returns-clause-value : goal.returns-clause-value
returns-clause-value c = λ v h.
    let n = length c.args.a.now in
    let a = number v c.args.a.now in
    let b = number v c.args.b.now in
    let top = get_or c.args.b.now (n - 1) no_bit in
    let k1 = c.in_ok-word.ensures.made.grows.keeps v h in
    let k2 = c.in_ok-some.ensures.made.grows.keeps v k1 in
    let k3 = c.in_ok-signed.ensures.made.grows.keeps v k2 in
    let k4 = c.in_ok-minus.ensures.made.grows.keeps v k3 in
    let k5 = c.in_ok-sizes.ensures.quotient.grows.keeps v k4 in
    let k6 = c.in_ok-b_size.ensures.made.grows.keeps v k5 in
    let lb : length c.args.b.now ≡ n = sym c.requires.same in
    let ab : a < 2 ^ n = number_below v c.args.a.now in
    let bb : b < 2 ^ n = let f = number_below v c.args.b.now in rw lb at f in
    let sa : bit_value v (get_or c.args.a.now (n - 1) no_bit) ≡ is_negative n a = sign_bit v c.args.a.now n c.requires.some refl in
    let sb : bit_value v top ≡ is_negative n b = sign_bit v c.args.b.now n c.requires.some lb in
    let ma : number v c.deref.result.now ≡ magnitude n a =
    ap (number v) c.deref.ensures.value ∙ (c.in_ok-a_size.ensures.value v k6 ∙ (ap (λ x. with_sign n x a) sa ∙ magnitude_is n a ab)) in
    let mb : number v c.deref-2.result.now ≡ magnitude n b =
    ap (number v) c.deref-2.ensures.value ∙ (c.in_ok-b_size.ensures.value v k5 ∙ (ap
    (λ m. with_sign m (bit_value v top) b) lb ∙ (ap (λ x. with_sign n x b) sb ∙ magnitude_is n b bb))) in
    let ln : length c.deref.result.now ≡ n = ap length c.deref.ensures.value ∙ c.in_ok-a_size.ensures.made.len in
    let q = number v c.in_ok-sizes.sizes.quotient.items in
    let ql : length c.in_ok-sizes.sizes.quotient.items ≡ n = c.in_ok-sizes.ensures.quotient.len ∙ ln in
    let qb : q < 2 ^ n = let f = number_below v c.in_ok-sizes.sizes.quotient.items in rw ql at f in
    let is = rw (ma, mb, ln) at (c.in_ok-sizes.ensures.value v k4) in
    let d : bit_value v c.in_ok-minus.minus ≡ differ (is_negative n a) (is_negative n b) = c.in_ok-minus.ensures.value v k3 ∙ (ap
    (λ x. differ x (bit_value v top)) sa ∙ ap (λ x. differ (is_negative n a) x) sb) in
    let l3 : length c.deref-3.result.now ≡ n = ap length c.deref-3.ensures.value ∙ ql in
    let q3 : number v c.deref-3.result.now ≡ q = ap (number v) c.deref-3.ensures.value in
    let y : number v c.deref-5.result.now ≡ with_sign n (differ (is_negative n a) (is_negative n b)) q =
    ap (number v) c.deref-5.ensures.value ∙ rw (d, l3, q3) at (c.in_ok-signed.ensures.value v k2) in
    let zero : number v c.deref-4.result.now ≡ 0 = ap (number v) c.deref-4.ensures.value ∙ (c.in_ok-zeros.ensures.value v k1 ∙ zero_word n) in
    let lz : length c.deref-4.result.now ≡ n = ap length c.deref-4.ensures.value ∙ c.in_ok-zeros.ensures.made.len in
    let ones : number v c.in_ok-ones.ones.items ≡ 2 ^ n - 1 - 0 = rw (zero, lz) at (c.in_ok-ones.ensures.value v) in
    let x : number v c.deref-6.result.now ≡ 2 ^ n - 1 = ap (number v) c.deref-6.ensures.value ∙ omega (arith, ones) in
    sdiv_from n a b q (number v c.in_ok-sizes.sizes.remainder.items) _ bb qb is (rw (c.in_ok-some.ensures.value v k1, y, x) at (c.in_ok-word.ensures.value v h))

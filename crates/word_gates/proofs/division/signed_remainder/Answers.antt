use Rattle.std.proofs.Common.{◌≡◌, ◌-◌, ◌^◌, ◌<◌, length, get_or, refl, sym, ◌∙◌, ap}
use Rattle.word_spec.specs.Words.{is_negative, magnitude, with_sign}
use Rattle.gates.specs.Circuits.{bit_value}
use Rattle.word_gates.specs.Numbers.{number}
use Rattle.word_gates.proofs.Words.{no_bit, number_below}
use Rattle.word_gates.proofs.Signs.{sign_bit}
use Rattle.word_gates.proofs.Quotients.{magnitude_is, srem_from}
use Rattle.word_gates.proofs.division.signed_remainder.Goals as goal

pub returns-clause-value : goal.returns-clause-value
returns-clause-value c = λ v h.
    let n = length c.args.a.now in
    let a = number v c.args.a.now in
    let b = number v c.args.b.now in
    let top = get_or c.args.b.now (n - 1) no_bit in
    let k4 = c.in_ok-word.ensures.made.grows.keeps v h in
    let k5 = c.in_ok-sizes.ensures.remainder.grows.keeps v k4 in
    let k6 = c.in_ok-b_size.ensures.made.grows.keeps v k5 in
    let lb : length c.args.b.now ≡ n = sym c.requires.same in
    let ab : a < 2 ^ n = number_below v c.args.a.now in
    let bb : b < 2 ^ n = let f = number_below v c.args.b.now in rw lb at f in
    let sa : bit_value v (get_or c.args.a.now (n - 1) no_bit) ≡ is_negative n a = sign_bit v c.args.a.now n c.requires.some refl in
    let sb : bit_value v top ≡ is_negative n b = sign_bit v c.args.b.now n c.requires.some lb in
    let ma : number v c.deref.result.now ≡ magnitude n a =
    ap (number v) c.deref.ensures.value ∙ (c.in_ok-a_size.ensures.value v k6 ∙ (ap (λ x. with_sign n x a) sa ∙ magnitude_is n a ab)) in
    let mb : number v c.deref-2.result.now ≡ magnitude n b =
    ap (number v) c.deref-2.ensures.value ∙ (c.in_ok-b_size.ensures.value v k5 ∙ (ap
    (λ m. with_sign m (bit_value v top) b) lb ∙ (ap (λ x. with_sign n x b) sb ∙ magnitude_is n b bb))) in
    let ln : length c.deref.result.now ≡ n = ap length c.deref.ensures.value ∙ c.in_ok-a_size.ensures.made.len in
    let m = number v c.in_ok-sizes.sizes.remainder.items in
    let is = rw (ma, mb, ln) at (c.in_ok-sizes.ensures.value v k4) in
    let l3 : length c.deref-3.result.now ≡ n = ap length c.deref-3.ensures.value ∙ (c.in_ok-sizes.ensures.remainder.len ∙ ln) in
    let m3 : number v c.deref-3.result.now ≡ m = ap (number v) c.deref-3.ensures.value in
    srem_from n a b (number v c.in_ok-sizes.sizes.quotient.items) m _ ab bb is (rw (sa, l3, m3) at (c.in_ok-word.ensures.value v h))

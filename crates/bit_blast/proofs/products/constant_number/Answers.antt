use Rattle.std.proofs.Common.{◌≡◌, ℕ, zero, suc, ◌+◌, ◌*◌, ◌%◌, ◌^◌, ◌<◌, ◌≤◌, arith}
use Rattle.std.proofs.Math.Nat.{mod-eq_of_lt, pow-le-pow_right}
use Rattle.word_gates.proofs.Words.{number_more, pow_more}
use Rattle.bit_blast.proofs.products.constant_number.Goals as goal

-- one digit more
digit_below : (p d : ℕ) → d < 2 → d * p ≤ p
digit_below p zero h = omega arith
digit_below p (suc zero) h = omega arith
digit_below p (suc (suc d)) h = absurd (omega arith)

digit_shifted : (d i : ℕ) → d < 2 → i < 64 → d * 2 ^ i % 18446744073709551616 ≡ d * 2 ^ i
digit_shifted d i h f =
    let l : 2 ^ (i + 1) ≤ 2 ^ 64 = pow-le-pow_right (omega arith) {j = 64} (omega arith) in
    let b = digit_below (2 ^ i) d h in
    let m : d * 2 ^ i < 18446744073709551616 = omega (arith, l, b, pow_more i) in
    mod-eq_of_lt m

pub loop-i-preserved : goal.loop-i-preserved
loop-i-preserved c =
    let i = c.loop-i.i in
    let d = c.in_ok-digit.digit in
    let s = digit_shifted d i c.in_ok-digit.ensures.below (omega (arith, c.requires)) in
    let b = digit_below (2 ^ i) d c.in_ok-digit.ensures.below in
    record {
      below = rw (s, pow_more i) (omega (arith, c.loop-i.invariant.below, b));
      value = λ v h. rw (number_more v c.args.word.now i (omega arith), c.loop-i.invariant.value v h, c.in_ok-digit.ensures.value v h, s) (omega arith);
    }

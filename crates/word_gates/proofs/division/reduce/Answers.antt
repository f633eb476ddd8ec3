use Rattle.std.proofs.Common.{◌≡◌, ◌+◌, ◌-◌, ◌*◌, ◌%◌, ◌^◌, ◌<◌, length, take, ap, arith}
use Rattle.word_spec.specs.Words.{bit}
use Rattle.word_gates.specs.Numbers.{number, digit}
use Rattle.word_gates.proofs.Words.{number_below, number_take, half_pow}
use Rattle.word_gates.proofs.division.reduce.Goals as goal

pub returns-clause-value : goal.returns-clause-value
returns-clause-value c = λ v h.
    let n = length c.args.remainder.now in
    let k = c.in_ok-bits.ensures.made.grows.keeps v h in
    let one = c.constant-one.ensures.value v (c.in_ok-sum.ensures.made.grows.keeps v k) in
    let e : 2 ^ n ≡ 2 * 2 ^ (n - 1) = half_pow n c.requires.longer in
    let x : number v c.in_ok-sum.sum.bits.items + 2 * 2 ^ (n - 1) * digit v c.in_ok-sum.sum.carry
    ≡ number v c.args.remainder.now + number v c.args.turned.now + digit v c.constant-one.result = rw e at (c.in_ok-sum.ensures.value v k) in
    let o : digit v c.constant-one.result ≡ 1 = ap bit one in
    let l = number_below v c.in_ok-sum.sum.bits.items in
    let m : number v c.in_ok-sum.sum.bits.items < 2 * 2 ^ (n - 1) = rw (c.in_ok-sum.ensures.made.len, e) at l in
    let t1 : number v (take (n - 1) c.in_ok-sum.sum.bits.items)
    ≡ number v c.in_ok-sum.sum.bits.items % 2 ^ (n - 1) = number_take v c.in_ok-sum.sum.bits.items (n - 1) (omega (arith, c.in_ok-sum.ensures.made.len)) in
    let t2 : number v (take (n - 1) c.args.remainder.now) ≡ number v c.args.remainder.now % 2 ^ (n - 1) = number_take v c.args.remainder.now (n - 1)
    (omega arith) in
    (number v c.in_ok-sum.sum.bits.items, rw o at x, m, rw (c.deref.ensures.value, t1, t2) at (c.in_ok-bits.ensures.value v h))

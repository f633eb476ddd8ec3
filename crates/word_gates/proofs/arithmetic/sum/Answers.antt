use Rattle.std.proofs.Common.{◌^◌, ◌<◌, length, ap}
use Rattle.word_spec.specs.Words.{bit}
use Rattle.word_gates.specs.Numbers.{number}
use Rattle.word_gates.proofs.Words.{number_below}
use Rattle.word_gates.proofs.Sums.{sum_modulo}
use Rattle.word_gates.proofs.arithmetic.sum.Goals as goal

pub returns-clause-value : goal.returns-clause-value
returns-clause-value c = λ v h.
    let b = number_below v c.in_ok-sum.sum.bits.items in
    let l : number v c.in_ok-sum.sum.bits.items < 2 ^ length c.args.a.now = rw c.in_ok-sum.ensures.made.len at b in
    let z = c.constant-zero.ensures.value v (c.in_ok-sum.ensures.made.grows.keeps v h) in
    sum_modulo (2 ^ length c.args.a.now) _ _ _ _ (c.in_ok-sum.ensures.value v h) (ap bit z) l

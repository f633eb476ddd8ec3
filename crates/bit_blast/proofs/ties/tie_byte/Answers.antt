use Rattle.std.proofs.Common.{◌≡◌, ◌==◌, ◌+◌, ◌-◌, ◌*◌, ◌/◌, ◌^◌, ◌&&◌, ◌<◌, ◌∙◌, ap, drop, length, arith}
use Rattle.gates.specs.Circuits.{bit_value}
use Rattle.word_gates.specs.Numbers.{number}
use Rattle.word_gates.proofs.Words.{no_bit, half_pow}
use Rattle.bit_blast.proofs.Lists.{two}
use Rattle.bit_blast.proofs.TiedBits.{asks, byte_step, byte_end}
use Rattle.bit_blast.proofs.ties.tie_byte.Goals as goal

pub loop-i-preserved : goal.loop-i-preserved
loop-i-preserved c =
    let a = c.args.a.now in let i = c.loop-i.i in
    let r = c.requires in
    let l : i < length a = omega arith in
    record {
      value = λ v.
          ap (λ z. z && asks (bit_value v c.args.condition) (number v (drop (i + 1) a) == c.loop-i.rest / 2)) (c.in_ok-push_tie.ensures.value v)
          ∙ byte_step v a i c.loop-i.rest _ _ _ _ _ l (c.wanted-bit.ensures.value v) (c.negation-apart.ensures.value v) (c.loop-i.invariant.value v);
      below =
          let p : 2 ^ (8 - i) ≡ 2 * 2 ^ (8 - i - 1) = half_pow (8 - i) (omega arith) in
          let q : 8 - i - 1 ≡ 8 - (i + 1) = omega arith in
          let e = ap (λ z. 2 ^ z) q in
          let k = c.loop-i.invariant.below in
          omega arith;
      over = λ n p q o.
          let x = q.each i no_bit l in
          c.in_ok-push_tie.ensures.over n (two n _ _ (omega (arith, c.negation-apart.ensures.variable)) (omega (arith, c.wanted-bit.ensures.variable)))
          (c.loop-i.invariant.over n p q o);
    }

pub returns-clause-value : goal.returns-clause-value
returns-clause-value c =
    let r = c.requires in
    let k = c.loop-i.invariant.below in
    let e : 8 - c.loop-i.i ≡ 0 = omega arith in
    let z = ap (λ n. 2 ^ n) e in
    λ v. byte_end v c.args.a.now c.loop-i.i c.loop-i.rest _ _ _ (omega arith) (omega arith) (c.loop-i.invariant.value v)

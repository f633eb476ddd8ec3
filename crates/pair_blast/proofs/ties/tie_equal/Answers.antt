use Rattle.std.proofs.Common.{◌<◌, length, refl, arith}
use Rattle.word_gates.proofs.Words.{no_bit}
use Rattle.pair_blast.proofs.EqualWords.{bits_step, bits_end}
use Rattle.pair_blast.proofs.ties.tie_equal.Goals as goal

pub loop-i-preserved : goal.loop-i-preserved
loop-i-preserved c =
    let i = c.loop-i.i in
    let k : i < length c.args.a.now = omega arith in
    let l : i < length c.args.b.now = omega (arith, c.requires) in
    record {
      value = λ v. bits_step v c.args.a.now c.args.b.now i _ _ _ _ _ k l refl refl (c.in_ok-tie_bits.ensures.value v) (c.loop-i.invariant.value v);
      over = λ n w x o. c.in_ok-tie_bits.ensures.over n (w.each i no_bit k) (x.each i no_bit l) (c.loop-i.invariant.over n w x o);
    }

pub returns-clause-value : goal.returns-clause-value
returns-clause-value c = λ v.
    bits_end v c.args.a.now c.args.b.now c.loop-i.i _ _ (omega arith) (omega (arith, c.requires)) (c.loop-i.invariant.value v)

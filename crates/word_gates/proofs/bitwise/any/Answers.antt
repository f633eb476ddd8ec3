use Rattle.std.proofs.Common.{◌^◌, arith}
use Rattle.gates.proofs.Netlists.{bit_then}
use Rattle.word_gates.proofs.Places.{any_place}
use Rattle.word_gates.proofs.Words.{number_more}
use Rattle.std.proofs.lemmas.Nat.{pow_pos}
use Rattle.word_gates.proofs.bitwise.any.Goals as goal

pub loop-i-preserved : goal.loop-i-preserved
loop-i-preserved c =
    let i = c.loop-i.i in
    let q = c.in_ok-some.ensures in
    record {
      made = bit_then _ c.loop-i.invariant.made.grows q.made (omega arith);
      value = λ v h.
          rw (number_more v c.args.a.now i (omega arith), any_place (2 ^ i) _ _ (pow_pos i))
          (rw (c.loop-i.invariant.value v (q.made.grows.keeps v h)) at (q.value v h));
    }

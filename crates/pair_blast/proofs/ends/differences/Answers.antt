use Rattle.std.proofs.Common.{◌<◌, length, arith}
use Rattle.gates.specs.Circuits.{next}
use Rattle.gates.proofs.Netlists.{grows_then}
use Rattle.word_gates.proofs.Words.{within_push}
use Rattle.bit_blast.proofs.Lists.{within_up}
use Rattle.bit_blast.specs.BitWords.{shapes}
use Rattle.pair_blast.proofs.EqualWords.{differ_step, bits_more}
use Rattle.pair_blast.proofs.ends.differences.Goals as goal

pub equal-requires-clause-a_within : goal.equal-requires-clause-a_within
equal-requires-clause-a_within c = c.operand-a.ensures.within _ (within_up _ _ c.args.first.now c.requires.first_within c.loop-i.invariant.grows.more)

pub equal-requires-clause-b_within : goal.equal-requires-clause-b_within
equal-requires-clause-b_within c = c.operand-b.ensures.within _ (within_up _ _ c.args.second.now c.requires.second_within c.loop-i.invariant.grows.more)

pub loop-i-preserved : goal.loop-i-preserved
loop-i-preserved c =
    let i = c.loop-i.i in
    let k : i < length c.args.exits.now = omega arith in
    let l : i < length c.args.others.now = omega (arith, c.requires.alike.count) in
    let m = c.in_ok-same.ensures.made in
    record {
      grows = grows_then _ c.loop-i.invariant.grows m.grows
          (omega (arith, bits_more (shapes c.args.first.now) c.args.exits.now i k, c.operand-a.ensures.len));
      within = rw c.in_ok-push-2.ensures.items
          (within_push (next c.equal.new.circuit) _ c.loop-i.invariant.within m.grows.more (omega (arith, c.negation.ensures.variable, m.within)));
      value = λ v h.
          differ_step v c.args.first.now c.args.second.now c.args.exits.now c.args.others.now i _ _ c.loop-i.bits.items _ c.negation.result c.in_ok-same.same _ k l
          (c.operand-a.ensures.value v) (c.operand-b.ensures.value v) (c.in_ok-same.ensures.value v h) (c.negation.ensures.value v) c.in_ok-push-2.ensures.items
          (c.loop-i.invariant.value v (m.grows.keeps v h));
    }

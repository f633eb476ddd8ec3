use Rattle.std.proofs.Common.{◌<◌, ◌∙◌, length, arith}
use Rattle.word_gates.proofs.Words.{no_bit}
use Rattle.bit_blast.specs.Said.{agrees_at}
use Rattle.bit_blast.proofs.Allowed.{no_agreement, all_more, asks_is}
use Rattle.bit_blast.proofs.reads.tie_agreements.Goals as goal

pub loop-i-preserved : goal.loop-i-preserved
loop-i-preserved c =
    let i = c.loop-i.i in
    let l : i < length c.args.agrees.now = omega arith in
    let can = c.requires.said i no_agreement l in
    let one = c.operand-condition.ensures.len ∙ can.condition.1 in
    record {
      value = λ v.
          c.in_ok-tie_words.ensures.value v
          ∙ all_more (agrees_at c.args.places.now c.args.inputs.now c.args.words.now v) c.args.agrees.now i no_agreement _ _ _ l (c.loop-i.invariant.value v)
          (asks_is v c.operand-condition.result.now _ _ _ _ _ one (c.operand-condition.ensures.value v)
          (c.read_bits-a.ensures.value v) (c.read_bits-b.ensures.value v));
      over = λ n w k o.
          c.in_ok-tie_words.ensures.over n ((c.operand-condition.ensures.within n k).each 0 no_bit (omega (arith, one)))
          (c.read_bits-a.ensures.within n w) (c.read_bits-b.ensures.within n w) (c.loop-i.invariant.over n w k o);
    }

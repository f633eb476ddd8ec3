use Rattle.std.proofs.Common.{◌≡◌, ◌+◌, ◌-◌, ◌^◌, length, take, get_or, refl, ap, ◌∙◌, arith}
use Rattle.std.proofs.lemmas.List.{take_all}
use Rattle.word_gates.specs.Numbers.{digit}
use Rattle.word_gates.proofs.Words.{no_bit, number_more, pow_more}
use Rattle.bit_blast.proofs.SignedWords.{same_bit, extended, extended_more}
use Rattle.bit_blast.proofs.products.signed_bits.Goals.{then-ne, else-ne}
use Rattle.bit_blast.proofs.products.signed_bits.Goals as goal

pub loop-i-preserved : goal.loop-i-preserved
loop-i-preserved c =
    let i = c.loop-i.i in
    let ls = c.args.word.now in
    let g = c.loop-i.invariant in
    elim c.if-ne.branch [
      | then-ne w ↦ rw w.bits-is (record { some = omega arith; within = omega arith; top = refl; value = λ v. refl })
      | else-ne w ↦
          let e : get_or ls i no_bit ≡ get_or ls (c.loop-i.bits - 1) no_bit = same_bit _ _ w.if-ne.ensures ∙ g.top in
          let k : i + 1 - 1 ≡ i = omega arith in
          rw w.bits-is (record {
            some = g.some;
            within = omega arith;
            top = ap (λ j. get_or ls j no_bit) k ∙ e;
            value = λ v.
                let d = ap (digit v) e in
                rw (number_more v ls i (omega arith), d, pow_more i) (extended_more (2 ^ c.loop-i.bits) (2 ^ i) _ _ _ (g.value v));
          })
    ]

pub returns-clause-value : goal.returns-clause-value
returns-clause-value c = λ v.
    let ls = c.args.word.now in
    let g = c.loop-i.invariant in
    let e : c.loop-i.i ≡ length ls = omega arith in
    let t : take c.loop-i.i ls ≡ ls = take_all _ _ (omega arith) in
    extended v ls c.loop-i.bits g.some (omega arith) (rw (t, e) at (g.value v))

use Rattle.std.proofs.Common.{◌+◌, ◌<◌, ◌∙◌, length, arith}
use Rattle.std.proofs.lemmas.List.{length-set}
use Rattle.std.proofs.lemmas.List.Elements.{All-set}
use Rattle.clause_spec.specs.Clauses.{valuation}
use Rattle.gates.specs.declared.bit.Bit.{Bit}
use Rattle.gates.specs.Circuits.{variable_of}
use Rattle.word_gates.proofs.Words.{no_bit}
use Rattle.pair_blast.proofs.StandIns.{set_same, bit_at}
use Rattle.pair_blast.proofs.linked.put.Goals as goal

pub loop-i-preserved : goal.loop-i-preserved
loop-i-preserved c =
    let i = c.loop-i.i in
    let f = c.args.first in
    let word = c.args.word.now in
    let l : i < length word = omega arith in
    record {
      len = length-set c.loop-i.bits (f + i) _ ∙ c.loop-i.invariant.len;
      within = λ n a b. record {
        each = All-set (λ (x : Bit). variable_of x < n) c.loop-i.bits (f + i) _ (b.each i no_bit l) (c.loop-i.invariant.within n a b).each;
      };
      value = λ v ts e g.
          set_same v c.loop-i.bits ts (f + i) _ (c.loop-i.invariant.value v ts e g) (bit_at v (valuation ts) word f i g l);
    }

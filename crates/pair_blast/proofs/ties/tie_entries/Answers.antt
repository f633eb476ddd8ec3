use Rattle.std.proofs.Common.{◌<◌, ◌∙◌, length, sym, arith}
use Rattle.pair_blast.proofs.EqualWords.{no_term, entries_step, entries_end}
use Rattle.pair_blast.proofs.ties.tie_entries.Goals as goal

pub operand-a-requires : goal.operand-a-requires
operand-a-requires c = c.requires.first c.loop-i.i no_term (omega arith)

pub operand-b-requires : goal.operand-b-requires
operand-b-requires c = c.requires.second c.loop-i.i no_term (omega (arith, c.requires.count))

pub tie_equal-requires : goal.tie_equal-requires
tie_equal-requires c =
    c.operand-a.ensures.len ∙ c.requires.widths c.loop-i.i no_term no_term (omega arith) ∙ sym c.operand-b.ensures.len

pub loop-i-preserved : goal.loop-i-preserved
loop-i-preserved c =
    let i = c.loop-i.i in
    let k : i < length c.args.entries.now = omega arith in
    let l : i < length c.args.others.now = omega (arith, c.requires.count) in
    record {
      value = λ v.
          entries_step v c.args.first.now c.args.second.now c.args.entries.now c.args.others.now i _ _ _ _ _ k l (c.operand-a.ensures.value v)
          (c.operand-b.ensures.value v) (c.in_ok-tie_equal.ensures.value v) (c.loop-i.invariant.value v);
      over = λ n w x o.
          c.in_ok-tie_equal.ensures.over n (c.operand-a.ensures.within n w) (c.operand-b.ensures.within n x) (c.loop-i.invariant.over n w x o);
    }

pub returns-clause-value : goal.returns-clause-value
returns-clause-value c = λ v.
    entries_end v c.args.first.now c.args.second.now c.args.entries.now c.args.others.now c.loop-i.i _ _ (omega arith) (omega (arith, c.requires.count))
    (c.loop-i.invariant.value v)

use Rattle.std.proofs.Common.{◌≡◌, ◌+◌, List, Bool, length, map, drop, sym, subst, arith}
use Rattle.weakest_pre.specs.Copies.{marked}
use Rattle.weakest_pre.proofs.Marks.{next_within, next_marked}
use Rattle.weakest_pre.proofs.copies.mark_all.Goals as goal

pub mark-requires : goal.mark-requires
mark-requires c =
    let l = (next_within c.args.terms.now c.loop-term.term-index (length c.args.marks.now) c.loop-term-test.true c.loop-term.invariant.1).0 in
    omega (arith, l, c.loop-term.auto.marks)

pub loop-term-preserved : goal.loop-term-preserved
loop-term-preserved c =
    let ts = c.args.terms.now in
    let i = c.loop-term.term-index in
    let all = marked c.args.marks.now (map (λ t. t.0) ts) in (
      subst (λ (ms : List Bool). marked ms (map (λ t. t.0) (drop (i + 1) ts)) ≡ all) (sym c.mark.ensures)
          (next_marked ts i c.loop-term.marks all c.loop-term-test.true c.loop-term.invariant.0),
      (next_within ts i (length c.args.marks.now) c.loop-term-test.true c.loop-term.invariant.1).1,
    )

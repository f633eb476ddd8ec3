use Rattle.std.proofs.Common.{List, take, sym, subst}
use Rattle.bilv_spec.specs.Notes.{Expr}
use Rattle.notes_value.specs.Views.{expr_of}
use Rattle.weakest_pre.specs.Entry.{AreTrue, said}
use Rattle.weakest_pre.proofs.Entries.{said_next, true_more}
use Rattle.weakest_pre.proofs.entry.all_true.Goals as goal

pub loop-each-preserved : goal.loop-each-preserved
loop-each-preserved c =
    let lines = c.args.lines.now in
    let i = c.loop-each.each-index in
    let item = c.each-item.result in
    subst (λ (z : List Expr). AreTrue c.args.dag.now c.both.new.dag c.args.big c.args.now.now c.args.entry.now c.args.first.0 z c.in_ok-all.all.0)
    (sym (said_next lines i item c.loop-each-test.true c.each-item.is))
    (true_more _ _ _ _ _ _ _ _ _ _ _ (said (take i lines)) (expr_of item.says) c.requires.now c.requires.entry c.loop-each.invariant c.in_ok-bit.ensures c.in_ok-all.ensures)

use Rattle.std.proofs.Common.{sym, subst, ◌+◌, arith}
use Rattle.weakest_pre.specs.Copies.{AreRootsMarked}
use Rattle.weakest_pre.proofs.Marks.{no_roots, roots_more}
use Rattle.weakest_pre.proofs.copies.mark_roots.Goals as goal

pub loop-k-init : goal.loop-k-init
loop-k-init c = no_roots c.args.roots.now c.args.marks.now c.requires.blank

pub loop-k-preserved : goal.loop-k-preserved
loop-k-preserved c =
    let roots = c.args.roots.now in
    let k = c.loop-k.k in
    subst (AreRootsMarked roots (k + 1)) (sym c.mark.ensures)
    (roots_more roots k c.loop-k.marks (let l = c.requires.roots k c.loop-k-test.true in omega (arith, l, c.loop-k.auto.marks)) c.loop-k.invariant)
